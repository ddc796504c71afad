-- The calls that are left, and their fields put into a buffer, one after the other.
use mathlib.Core.List.{List, [], ◌∷◌, ◌++◌, map, append_assoc, append-nil}
use mathlib.Core.Path.{◌≡◌, sym, ap, ap₂, ◌∙◌}
use Prim.Native.Nat.{ℕ, ◌+◌, ◌-◌, ◌≤◌}
use native.Mathlib.Omega.{arith}
use borrow.Rule.Slice.PartMut.{put_mid, post_of}
use lib.ListN.{length, take, drop, length-append, take-append-drop}
use lib.Seq.{drop-drop, length-take-le}
use Rattle.std.proofs.lemmas.Slice.{take-put_mid, drop-put_mid}
use Rattle.pmc330_model.specs.Calls.{Call}
use Rattle.trace.specs.Fields.{field_bytes, bytes_of_fields}
use Rattle.load.specs.Load.{load_calls, field_for}
use Rattle.load.specs.Machine.{calls_bytes}

-- the next call's bytes, and those of the calls after it
calls_next :
    (x left y later : ℕ) (call : Call) → load_calls x left ≡ call ∷ load_calls y later
    → calls_bytes x left ≡ field_bytes (field_for call) ++ calls_bytes y later
unfolding bytes_of_fields
calls_next x left y later call next = ap (λ (l : List Call). bytes_of_fields (map field_for l)) next

pub next_length :
    (x left y later : ℕ) (call : Call) → load_calls x left ≡ call ∷ load_calls y later
    → length (calls_bytes x left) ≡ length (field_bytes (field_for call)) + length (calls_bytes y later)
next_length x left y later call next =
    ap length (calls_next x left y later call next) ∙ length-append (field_bytes (field_for call)) (calls_bytes y later)

pub calls_end : (x left : ℕ) → load_calls x left ≡ [] → calls_bytes x left ≡ []
unfolding bytes_of_fields
calls_end x left none = ap (λ (l : List Call). bytes_of_fields (map field_for l)) none

-- where the loop stands that puts them: what is put and what is left come to the whole, and the bytes past these stay
pub record Putting (first all out : List ℕ) (x left at : ℕ) : Type 0 where
  pub within : at ≤ length out
  pub front : take at out ++ calls_bytes x left ≡ all
  pub back : drop at out ≡ drop at first

module _ (first all out : List ℕ) (x left at : ℕ) (p : Putting first all out x left at) where
  putting_room : at + length (calls_bytes x left) ≡ length all
  putting_room =
      omega (arith, ap length p.front, length-append (take at out) (calls_bytes x left), length-take-le at out p.within)

  pub putting_end : load_calls x left ≡ [] → out ≡ all ++ drop (length all) first
  putting_end none =
      let nothing = calls_end x left none in
      let front : take at out ≡ all = sym (append-nil (take at out)) ∙ ap (λ (l : List ℕ). take at out ++ l) (sym nothing) ∙ p.front in
      let size : at ≡ length all = omega (arith, putting_room, ap length nothing) in
      sym (take-append-drop at out) ∙ ap₂ ◌++◌ front (p.back ∙ ap (λ (n : ℕ). drop n first) size)

module _
    (first all out : List ℕ) (x left y later at : ℕ) (call : Call) (next : load_calls x left ≡ call ∷ load_calls y later)
    (room : length all ≤ length out) (p : Putting first all out x left at)
  where
    pub putting_fits : at + length (field_bytes (field_for call)) ≤ length out
    putting_fits = omega (arith, room, putting_room first all out x left at p, next_length x left y later call next)

    pub putting_turn :
        (size : ℕ) (place : List ℕ) → size ≡ length (field_bytes (field_for call)) → place ≡ field_bytes (field_for call)
        → Putting first all (put_mid at (at + size - at) out place) y later (at + size)
    putting_turn size place s b =
        let long : length place ≡ at + size - at = omega (arith, ap length b) in
        let after = calls_bytes y later in
        record {
          within =
              omega (
                arith,
                length-append (take at out) (place ++ post_of at (at + size - at) out),
                length-append place (post_of at (at + size - at) out),
                length-take-le at out p.within,
              );
          front =
              ap (λ (l : List ℕ). l ++ after) (take-put_mid at (at + size - at) out place (at + size) (omega arith) p.within)
              ∙ append_assoc (take at out) place after
              ∙ ap (λ (l : List ℕ). take at out ++ (l ++ after)) b
              ∙ ap (λ (l : List ℕ). take at out ++ l) (sym (calls_next x left y later call next))
              ∙ p.front;
          back =
              drop-put_mid at (at + size - at) out place (at + size) (omega arith) p.within long
              ∙ sym (drop-drop size at out)
              ∙ ap (drop size) p.back
              ∙ drop-drop size at first;
        }
