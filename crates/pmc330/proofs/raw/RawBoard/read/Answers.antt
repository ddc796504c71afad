-- The questions, the word and the counts are the definition's.
use mathlib.Core.Path.{refl, sym, ap, ◌∙◌}
use Rattle.std.proofs.lemmas.Result.{err_from_is_err_and}
use Rattle.std.specs.Prelude.{Err}
use Rattle.pmc330_model.specs.Calls.{read}
use Rattle.pmc330_model.specs.Words.{read_word, read_bytes}
use Rattle.pmc330_model.specs.declared.Registers.{Registers}
use Rattle.pmc330.specs.Raw.{board_of, is_set}
use Rattle.pmc330.specs.declared.raw.RawBoard.{RawBoard}
use Rattle.pmc330.specs.Widths.{bits_of, IsAccess, view_in}
use Rattle.pmc330.proofs.AccessLaws.{read_refused, read_asked, read_board, read_value}
use Rattle.pmc330.proofs.RawLaws.{refused, accepted}
use Rattle.pmc330.proofs.raw.RawBoard.read.Goals as goal

pub returns-in_err-access : goal.returns-in_err-access
returns-in_err-access c =
    let a = c.args in
    let p = err_from_is_err_and c.from_residual.result c.from_residual.ensures.1 in
    refused (read a.width a.offset) a.self.now a.self.now (p.1 ∙ ap Err p.2)
    (read_refused (board_of a.self.now) a.width a.offset c.in_err-access.ensures)
    refl

pub returns-in_err-of_read : goal.returns-in_err-of_read
returns-in_err-of_read c =
    let a = c.args in
    let p = err_from_is_err_and c.from_residual-in_err-of_read.result c.from_residual-in_err-of_read.ensures.1 in
    refused (read a.width a.offset) a.self.now a.self.now (p.1 ∙ ap Err p.2)
    (read_asked (board_of a.self.now) a.width a.offset _ c.in_ok-access.ensures _ c.register-register.ensures ∙ sym c.in_err-of_read.ensures)
    refl

pub returns : goal.returns
returns c =
    let a = c.args in
    let h = a.self.now in
    let access = c.in_ok-access in
    let is : IsAccess a.width a.offset access.access = access.ensures in
    let register = c.register-register in
    let word = c.read_word-word in
    let same = ap (λ (r : Registers). read_word (view_in r (is_set h.pending) h.gains h.codes h.unread) register.result) c.registers.ensures in
    accepted (read a.width a.offset) h _ _
    (read_asked (board_of h) a.width a.offset access.access is register.result register.ensures ∙ sym c.in_ok-of_read.ensures)
    (c.after_read.ensures.board ∙ read_board (board_of h) a.width a.offset access.access is register.result register.ensures)
    (c.read_bytes.ensures
    ∙ ap (read_bytes (bits_of access.access.width) access.access.offset) (word.ensures ∙ same)
    ∙ read_value (board_of h) a.width a.offset access.access is register.result register.ensures)
    (λ one. c.after_read.ensures.rest)
    (ap (λ (after : RawBoard). after.spare) c.after_read.ensures.rest)
    c.after_read.ensures.plain
