-- The questions and the board are the definition's.
use mathlib.Core.Bool.{not}
use mathlib.Core.List.{List, [], ◌∷◌}
use mathlib.Core.Path.{◌≡◌, refl, sym, ap, ◌∙◌}
use Prim.Native.Nat.{ℕ, ◌^◌}
use lib.Dec.{ltb}
use Rattle.std.proofs.lemmas.Bool.{false≢true}
use Rattle.std.proofs.lemmas.Result.{err_from_is_err_and}
use Rattle.std.specs.Prelude.{Err, Result, ⊤}
use Rattle.analog.specs.Answers.{Question, question, asked}
use Rattle.analog.specs.declared.Refusal.{Refusal}
use Rattle.analog.specs.declared.Refusal.TheVariants.{BadValue}
use Rattle.pmc330_model.specs.Board.{questions_of, value_of_call}
use Rattle.pmc330_model.specs.Calls.{write}
use Rattle.pmc330_model.specs.Questions.{word_questions}
use Rattle.pmc330_model.specs.Words.{with_word, written_word, held_word}
use Rattle.pmc330_model.specs.declared.Registers.{Registers}
use Rattle.pmc330.specs.Raw.{board_of, registers_of, is_set}
use Rattle.pmc330.specs.Widths.{bits_of}
use Rattle.pmc330.proofs.AccessLaws.{write_refused, write_asked, write_board}
use Rattle.pmc330.proofs.QuestionLaws.{and_then}
use Rattle.pmc330.proofs.RawLaws.{refused, accepted}
use Rattle.pmc330.proofs.raw.RawBoard.write.Goals as goal
use Rattle.pmc330.proofs.raw.RawBoard.write.Goals.{After-written_word-word}

pub returns-in_err-access : goal.returns-in_err-access
returns-in_err-access c =
    let a = c.args in
    let p = err_from_is_err_and c.from_residual.result c.from_residual.ensures.1 in
    refused (write a.width a.offset a.value) a.self.now a.self.now (p.1 ∙ ap Err p.2)
    (write_refused (board_of a.self.now) a.width a.offset a.value c.in_err-access.ensures)
    refl

-- the word, of the registers as they are held, and the questions after those of the access
abbrev word_of : After-written_word-word → Registers → ℕ
word_of c r =
    let access = c.in_ok-access.access in
    written_word (bits_of access.width) access.offset c.args.value (held_word r c.args.self.now.gains c.register-register.result)

written : (c : After-written_word-word) → c.written_word-word.result ≡ word_of c (registers_of c.args.self.now)
written c = c.written_word-word.ensures ∙ ap (word_of c) c.registers.ensures

abbrev later : After-written_word-word → List Question
later c =
    let r : Registers = registers_of c.args.self.now in
    let register = c.register-register.result in
    let word = c.written_word-word.result in
    word_questions r (not (is_set c.args.self.now.running)) register word (with_word register word r)

questions_left :
    (c : After-written_word-word) {result : Result ⊤ Refusal}
    → result ≡ asked (question BadValue (ltb c.args.value (2 ^ bits_of c.in_ok-access.access.width)) ∷ [])
    → asked (questions_of (board_of c.args.self.now) (write c.args.width c.args.offset c.args.value)) ≡ and_then result (later c)
questions_left c told =
    write_asked (board_of c.args.self.now) c.args.width c.args.offset c.in_ok-access.access c.in_ok-access.ensures _ c.register-register.ensures c.args.value _ (written c)
    ∙ ap (λ (result : Result ⊤ Refusal). and_then result (later c)) (sym told)

pub returns-in_err-of_value : goal.returns-in_err-of_value
returns-in_err-of_value c =
    let a = c.args in
    let p = err_from_is_err_and c.from_residual-in_err-of_value.result c.from_residual-in_err-of_value.ensures.1 in
    refused (write a.width a.offset a.value) a.self.now a.self.now (p.1 ∙ ap Err p.2)
    (questions_left (goal.at.returns-in_err-of_value c).After-written_word-word c.in_err-of_value.ensures)
    refl

pub returns-in_err-put : goal.returns-in_err-put
returns-in_err-put c =
    let a = c.args in
    let p = err_from_is_err_and c.from_residual-in_err-put.result c.from_residual-in_err-put.ensures.1 in
    refused (write a.width a.offset a.value) a.self.now _ (p.1 ∙ ap Err p.2)
    (questions_left (goal.at.returns-in_err-put c).After-written_word-word c.in_ok-of_value.ensures ∙ sym c.in_err-put.ensures.asks)
    (c.in_err-put.ensures.kept _ refl)

pub returns : goal.returns
unfolding value_of_call
returns c =
    let a = c.args in
    let at = (goal.at.returns c).After-written_word-word in
    let access = c.in_ok-access in
    let put = c.in_ok-put.ensures in
    accepted (write a.width a.offset a.value) a.self.now _ 0
    (questions_left at c.in_ok-of_value.ensures ∙ sym put.asks)
    (put.done refl ∙ write_board (board_of a.self.now) a.width a.offset access.access access.ensures _ c.register-register.ensures a.value _ (written at))
    refl
    (λ one. absurd (false≢true one))
    put.spare
    put.plain
