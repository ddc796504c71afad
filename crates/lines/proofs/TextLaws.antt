-- The digits that `{}` and `{:08X}` write are those of specs/Text.
use Rattle.std.proofs.Common.{ℕ, zero, suc, ◌+◌, ◌-◌, ◌/◌, ◌%◌, ◌*◌, ◌^◌, ◌≤◌, ◌<◌, ◌≡◌, true, false, List, [], ◌∷◌, ◌++◌, length, map, get_or, replicate, refl, sym, ap, ◌∙◌, ⊎_elim, append_assoc, append-nil, pow-suc, arith, lt-ltb, le-ltb}
use Rattle.std.proofs.lemmas.Bool.{cases_eq}
use Rattle.std.proofs.lemmas.Fmt.{AppendsLastDigit, decimal_from_appends, length-decimal-le_succ}
use Rattle.std.proofs.lemmas.List.{replicate-append-replicate}
use Rattle.std.proofs.lemmas.List.FromFn.{get_or-map-range_with_len}
use Rattle.std.proofs.DigitsParse.{digits_onto-nil, digits_onto_last, digits_onto_step}
use Rattle.std.specs.List.{range_with_len}
use Rattle.std.specs.Fmt.{decimal, digits, digits_onto, padded_integral, format_spec, char_count}
use Rattle.lines.specs.Text.{digit_of, digits_of, decimal_in, decimal_of, hex_of}

appends_last : AppendsLastDigit decimal_in
unfolding decimal_in
appends_last = record {
  one = λ k n small. rw (lt-ltb n 10 small) refl;
  more = λ k n large. rw (le-ltb n 10 large, lt-ltb (n % 10) 10 (omega arith)) refl;
}

pub decimal_same : (n : ℕ) → n < 2 ^ 64 → decimal n ≡ decimal_of n
decimal_same n h = sym (decimal_from_appends decimal_in appends_last (suc n) n h (omega (arith, length-decimal-le_succ n h)))

zeros : (count : ℕ) → digits_of 16 count 0 ≡ replicate count 48
unfolding digits_of
zeros zero = refl
zeros (suc n) =
    ap (λ (l : List ℕ). l ++ (48 ∷ [])) (zeros n) ∙ replicate-append-replicate n 1 48
    ∙ ap (λ (k : ℕ). replicate k 48) {x = n + 1} {y = suc n} (omega arith)

-- a number with more digits than one
more_places : (k n : ℕ) → n < 16 ^ suc k → (n / 16 ≡ 0 → ⊥) → 0 < k
more_places zero n h more = absurd (more (omega arith))
more_places (suc k) n h more = omega arith

-- zeros in front, up to a count of digits
filled :
    (count places n : ℕ) (after : List ℕ) → n < 16 ^ count → 0 < count → count ≤ places
    → replicate (count + length after - length (digits_onto places 16 true n after)) 48 ++ digits_onto places 16 true n after
    ≡ digits_of 16 count n ++ after
unfolding digits_of
filled zero places n after h some enough = absurd (omega arith)
filled (suc k) places n after h some enough =
    let room : 0 < places = omega arith in
    ⊎_elim
    (λ last.
    let count : suc k + length after - suc (length after) ≡ k = omega arith in
    rw (digits_onto_last 16 true n after places room last, count, last)
    (ap (λ (l : List ℕ). l ++ (digit_of (n % 16) ∷ after)) (sym (zeros k)) ∙ sym (append_assoc (digits_of 16 k 0) (digit_of (n % 16) ∷ []) after)))
    (λ more.
    let count : suc k + length after ≡ k + suc (length after) = omega arith in
    let front : n / 16 < 16 ^ k = omega (arith, pow-suc 16 k) in
    let fewer : k ≤ places - 1 = omega arith in
    rw (digits_onto_step 16 true n after places room more, count)
    (filled k (places - 1) (n / 16) (digit_of (n % 16) ∷ after) front (more_places k n h more) fewer
    ∙ sym (append_assoc (digits_of 16 k (n / 16)) (digit_of (n % 16) ∷ []) after)))
    (cases_eq (n / 16) 0)

pub hex_same : (n : ℕ) → n < 2 ^ 32 → padded_integral (format_spec 32 0 4 8 (2 ^ 64 - 1)) false [] (digits 16 true n) ≡ hex_of n
unfolding padded_integral char_count
hex_same n h =
    let bare : List ℕ = digits_onto 64 16 true n [] in
    ap (padded_integral (format_spec 32 0 4 8 (2 ^ 64 - 1)) false []) (sym (digits_onto-nil 16 true n))
    ∙ ap (λ (l : List ℕ). replicate (8 - length bare - 0 - 0) 48 ++ l) (append-nil bare)
    ∙ ap (λ (k : ℕ). replicate k 48 ++ bare) {x = 8 - length bare - 0 - 0} {y = 8 - length bare} (omega arith)
    ∙ filled 8 64 n [] (omega arith) (omega arith) (omega arith)
    ∙ append-nil (hex_of n)

-- the table of the digits
pub digit_in_table : (d : ℕ) → d < 16 → get_or (48 ∷ 49 ∷ 50 ∷ 51 ∷ 52 ∷ 53 ∷ 54 ∷ 55 ∷ 56 ∷ 57 ∷ 65 ∷ 66 ∷ 67 ∷ 68 ∷ 69 ∷ 70 ∷ []) d 0 ≡ digit_of d
digit_in_table d h = get_or-map-range_with_len digit_of 0 16 d d 0 h (omega arith)

-- the eight digits, each by a shift
pub hex_by_shifts : (n : ℕ) → map (λ k. digit_of (n / 2 ^ (28 - 4 * k) % 16)) (range_with_len 0 8) ≡ hex_of n
unfolding digits_of
hex_by_shifts n =
    let two : n / 16 / 16 ≡ n / 2 ^ 8 = omega arith in
    let three : n / 2 ^ 8 / 16 ≡ n / 2 ^ 12 = omega arith in
    let four : n / 2 ^ 12 / 16 ≡ n / 2 ^ 16 = omega arith in
    let five : n / 2 ^ 16 / 16 ≡ n / 2 ^ 20 = omega arith in
    let six : n / 2 ^ 20 / 16 ≡ n / 2 ^ 24 = omega arith in
    let seven : n / 2 ^ 24 / 16 ≡ n / 2 ^ 28 = omega arith in
    let none : n / 2 ^ 0 ≡ n = omega arith in
    rw (two, three, four, five, six, seven, none) refl
