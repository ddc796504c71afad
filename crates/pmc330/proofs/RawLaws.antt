-- A call on a board that is held: refused, or accepted.
use mathlib.Core.Bool.{true}
use mathlib.Core.Path.{◌≡◌, refl, sym, ap, subst, ◌∙◌}
use Prim.Native.Nat.{ℕ, ◌≤◌}
use native.Mathlib.Omega.{arith}
use Rattle.std.proofs.lemmas.Bool.{false≢true}
use Rattle.std.specs.Prelude.{Ok, Err}
use Rattle.analog.specs.Answers.{asked, Answer}
use Rattle.analog.proofs.AnswerLaws.{ok_first}
use Rattle.analog.specs.declared.Refusal.{Refusal}
use Rattle.pmc330_model.specs.Words.{to_bit}
use Rattle.pmc330_model.specs.Calls.{Call}
use Rattle.pmc330_model.specs.Board.{questions_of, after_call, value_of_call}
use Rattle.pmc330_model.specs.declared.Reply.{Reply}
use Rattle.pmc330_model.proofs.Replies.{refused_reply, accepted_reply}
use Rattle.pmc330.specs.Raw.{is_set, Plain, board_of, raw_of, changes_one, Does}
use Rattle.pmc330.specs.declared.raw.RawBoard.{RawBoard}

pub refused :
    (call : Call) (before after : RawBoard) {told : Answer} {refusal : Refusal} → told ≡ Err refusal
    → asked (questions_of (board_of before) call) ≡ Err refusal → after ≡ before → Does call before told after
refused call before after {told} {refusal} is first same =
    let e = refused_reply (board_of before) call refusal first in
    record {
      answer = is ∙ ap (λ (r : Reply). r.answer) e;
      board = ap board_of same ∙ ap (λ (r : Reply). r.board) e;
      kept = λ no. same;
      rest = λ one. subst (λ (h : RawBoard). h ≡ record before { inputs = h.inputs; unread = h.unread }) (sym same) refl;
      spare = ap (λ (h : RawBoard). h.spare) same;
      plain = λ h. subst Plain (sym same) h;
    }

pub accepted :
    (call : Call) (before after : RawBoard) (value : ℕ) → asked (questions_of (board_of before) call) ≡ Ok record {}
    → board_of after ≡ after_call (board_of before) call → value ≡ value_of_call (board_of before) call
    → (changes_one call ≡ true → after ≡ record before { inputs = after.inputs; unread = after.unread })
    → after.spare ≡ before.spare → (Plain before → Plain after) → Does call before (Ok value) after
accepted call before after value met board answer rest spare plain =
    let e = accepted_reply (board_of before) call (board_of after) value (ok_first (questions_of (board_of before) call) met) board answer in
    record {
      answer = ap (λ (r : Reply). r.answer) e;
      board = ap (λ (r : Reply). r.board) e;
      kept = λ no. absurd (false≢true (sym no));
      rest = rest;
      spare = spare;
      plain = plain;
    }

-- ---- plain bytes are those of their board

flag_is : (byte : ℕ) → byte ≤ 1 → byte ≡ to_bit (is_set byte)
flag_is byte most = grind arith

pub plain_is : (h : RawBoard) → Plain h → h ≡ raw_of (board_of h)
plain_is h p =
    λ i.
    record {
      inputs = h.inputs;
      lead = h.lead;
      lag = h.lag;
      codes = h.codes;
      control = h.control;
      timer = h.timer;
      taken = h.taken;
      gains = h.gains;
      unread = h.unread;
      range = h.range;
      prescaler = h.prescaler;
      start = h.start;
      end = h.end;
      enable = flag_is h.enable p.enable i;
      pending = flag_is h.pending p.pending i;
      running = flag_is h.running p.running i;
      waiting = flag_is h.waiting p.waiting i;
      slot = h.slot;
      ends = flag_is h.ends p.ends i;
      index = h.index;
      odd = flag_is h.odd p.odd i;
      spare = p.spare i;
    }
