-- The board that C holds: what each call does to it, and what a list of calls comes to.
use Rattle.std.specs.Prelude.{ℕ, ◌<◌, true, false, List, [], ◌∷◌, ◌≡◌}
use Rattle.analog.specs.Answers.{packed, all_met, first_no, Answer, is_accepted}
use Rattle.pmc330_model.specs.Calls.{Call}
use Rattle.pmc330_model.specs.Board.{questions_of, next_store, board_after, answers_of, open_call}
use Rattle.pmc330_model.specs.Logbook.{logbook_of, logbook_answers}
use Rattle.pmc330_model.specs.Sentences.{AfterList1, Sentence3, value_of_advances}
use Rattle.pmc330.specs.Raw.{Plain, board_of, raw_of, Does}
use Rattle.pmc330.specs.declared.raw.RawBoard.{RawBoard}

-- ---- one call

-- a call on a board that C holds, whatever its bytes are: C gets back 256 × value + number
abbrev pub Stepped : Call → (before : RawBoard) → (result : ℕ) → (after : RawBoard) → Type 0
Stepped call before result after = (told : Answer) × (result ≡ packed told × Does call before told after)

-- a new board, in place of whatever the bytes held
pub record Opened (range : ℕ) (before : RawBoard) (result : ℕ) (after : RawBoard) : Type 0 where
  pub answer : result ≡ packed (open_call (board_of before) range).answer
  pub board : board_of after ≡ (open_call (board_of before) range).board
  pub kept : is_accepted (open_call (board_of before) range).answer ≡ false → after ≡ before
  pub plain : is_accepted (open_call (board_of before) range).answer ≡ true → Plain after

-- ---- a list of calls

-- one step of a C program: the call, what it gave, and the board then
pub record Step : Type 0 where
  pub call : Call
  pub result : ℕ
  pub after : RawBoard

-- each step is on the board that the one before left: the same memory, or a copy that was saved and restored
abbrev pub Steps : RawBoard → List Step → Type 0
Steps before [] = Unit
Steps before (step ∷ steps) = Stepped step.call before step.result step.after × Steps step.after steps

unfoldable pub raw_after : RawBoard → List Step → RawBoard
raw_after before [] = before
raw_after before (step ∷ steps) = raw_after step.after steps

unfoldable pub calls_of : List Step → List Call
calls_of [] = []
calls_of (step ∷ steps) = step.call ∷ calls_of steps

unfoldable pub results_of : List Step → List ℕ
results_of [] = []
results_of (step ∷ steps) = step.result ∷ results_of steps

unfoldable pub packed_all : List Answer → List ℕ
packed_all [] = []
packed_all (answer ∷ answers) = packed answer ∷ packed_all answers

-- ---- what C sees

-- From an opened board on, any list of calls gives the answers and the board that the sentences speak of: those of the logbook
pub record Seen (range : ℕ) (opened : RawBoard) (steps : List Step) : Type 0 where
  pub answers : results_of steps ≡ packed_all (answers_of range (calls_of steps))
  pub board : board_of (raw_after opened steps) ≡ board_after range (calls_of steps)
  -- and every byte is settled by that board
  pub bytes : raw_after opened steps ≡ raw_of (board_after range (calls_of steps))
  -- sentence 1 of every next call, 2 of every result, 3 of the board
  pub next : (call : Call) → AfterList1 (board_of (raw_after opened steps)) (logbook_of range (calls_of steps)) call
  pub logged : results_of steps ≡ packed_all (logbook_answers range (calls_of steps))
  pub mailboxes : Sentence3 (board_of (raw_after opened steps)) (logbook_of range (calls_of steps))
  -- no store is to come: no number of advances makes one
  pub last : next_store (board_of (raw_after opened steps)) ≡ 0 → (ns : List ℕ) → value_of_advances (board_of (raw_after opened steps)) ns ≡ 0

abbrev pub EverySteps : Type 0
EverySteps =
    (range result : ℕ) → range < 4 → (before opened : RawBoard) → Opened range before result opened
    → (steps : List Step) → Steps opened steps → Seen range opened steps

-- A refused call leaves every byte as it was, whatever the bytes are
abbrev pub EveryRefusedStep : Type 0
EveryRefusedStep =
    (before after : RawBoard) (call : Call) (result : ℕ) → Stepped call before result after
    → all_met (questions_of (board_of before) call) ≡ false → (result ≡ first_no (questions_of (board_of before) call)) × (after ≡ before)

abbrev pub EveryRefusedOpen : Type 0
EveryRefusedOpen =
    (before after : RawBoard) (range result : ℕ) → Opened range before result after → 3 < range → (result ≡ 14) × (after ≡ before)
