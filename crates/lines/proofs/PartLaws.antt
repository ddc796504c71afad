-- A buffer that begins with a text: parts that fit, a line put into the rest of the buffer, and what the buffer takes.
use Rattle.std.proofs.Common.{ℕ, zero, suc, ◌+◌, ◌-◌, ◌*◌, ◌≤◌, ◌<◌, ◌≡◌, List, [], ◌∷◌, ◌++◌, length, take, drop, get_or, refl, sym, ap, ◌∙◌, append_assoc, append-nil, length-append, length-drop, arith, le-leb}
use Rattle.std.proofs.lemmas.List.{take_at, drop_at, drop-drop, drop_all, take_all, length-take-le}
use borrow.Rule.Slice.PartMut.{put_mid, mid_of}
use Rattle.std.specs.List.{flat_map}
use Rattle.lines.specs.Text.{lines_of, taken, put_lines, Begins}

begins : (text before after : List ℕ) (count : ℕ) → count ≡ length text → after ≡ text ++ drop count before → count ≤ length before → Begins text before after count
begins text before after count counted holds fits =
    let within : count ≤ length after = rw holds (omega (arith, length-append text (drop count before), length-drop count before)) in
    record { counted = counted; holds = holds; within = within; front = sym (length-take-le count after within) }

pub begins_none : (before : List ℕ) → Begins [] before before 0
begins_none before = begins [] before before 0 refl refl (omega arith)

-- a buffer of 32 bytes takes the line
pub takes :
    (line parts before after : List ℕ) (count : ℕ) → 32 ≤ length before → Begins parts before after count → parts ≡ line
    → Begins (taken line before) before after count
takes line parts before after count h b is = rw (le-leb 32 (length before) h, sym is) b

-- a part fits where all of them do
pub part_fits : {X : Type 0} (f : X → List ℕ) (parts : List X) (i : ℕ) (d : X) → i < length parts → length (flat_map f (take i parts)) + length (f (get_or parts i d)) ≤ length (flat_map f parts)
part_fits f [] i d h = absurd (omega arith)
part_fits f (x ∷ xs) zero d h = omega (arith, length-append (f x) (flat_map f xs))
part_fits f (x ∷ xs) (suc i) d h =
    omega (arith, length-append (f x) (flat_map f xs), length-append (f x) (flat_map f (take i xs)), part_fits f xs i d (omega arith))

-- a line that is put into the rest of the buffer
pub begins_line :
    (text line whole before now after : List ℕ) (at count : ℕ) → Begins text before now at → at + 32 ≤ length before → length now ≡ length before → length line ≤ 32
    → Begins (taken line (mid_of at (length now - at) now)) (mid_of at (length now - at) now) after count → text ++ line ≡ whole
    → Begins whole before (put_mid at (length now - at) now after) (at + count)
begins_line text line whole before now after at count b room same short put is =
    let size = length now - at in
    let rest : mid_of at size now ≡ drop at now = take_all size (drop at now) (omega (arith, length-drop at now)) in
    let all : taken line (mid_of at size now) ≡ line = rw (le-leb 32 (length (mid_of at size now)) (rw rest (omega (arith, length-drop at now)))) refl in
    let counted : count ≡ length line = put.counted ∙ ap length all in
    let front : take at now ≡ text = ap (take at) b.holds ∙ take_at text (drop at before) at (sym b.counted) in
    let back : drop size (drop at now) ≡ [] = drop_all size (drop at now) (omega (arith, length-drop at now)) in
    let put_text : after ≡ line ++ drop (at + count) before =
    put.holds ∙ ap (λ (l : List ℕ). l ++ drop count (mid_of at size now)) all ∙ ap (λ (l : List ℕ). line ++ drop count l) rest
    ∙ ap (λ (l : List ℕ). line ++ drop count (drop at l)) b.holds ∙ ap (λ (l : List ℕ). line ++ drop count l) (drop_at text (drop at before) at (sym b.counted))
    ∙ ap (λ (l : List ℕ). line ++ l) (drop-drop count at before) in
    rw (sym is)
    (begins (text ++ line) before (put_mid at size now after) (at + count) (omega (arith, b.counted, counted, length-append text line))
    (ap (λ (l : List ℕ). take at now ++ (after ++ l)) back ∙ ap (λ (l : List ℕ). take at now ++ l) (append-nil after)
    ∙ ap (λ (l : List ℕ). l ++ after) front ∙ ap (λ (l : List ℕ). text ++ l) put_text
    ∙ sym (append_assoc text line (drop (at + count) before)))
    (omega arith))

-- a buffer of 32 bytes for each call takes the lines
pub puts_lines :
    (answers before after : List ℕ) (calls at : ℕ) → 5 * calls ≤ length answers → 32 * calls ≤ length before → Begins (lines_of answers calls) before after at
    → Begins (put_lines answers calls before) before after at
puts_lines answers before after calls at a b h = rw (le-leb (5 * calls) (length answers) a, le-leb (32 * calls) (length before) b) h
