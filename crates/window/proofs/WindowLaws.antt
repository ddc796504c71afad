-- Sums of a window, by the sums of the first codes of a run: one law for every length.
use mathlib.Core.Bool.{Bool, true, false, cond}
use mathlib.Core.List.{List, [], ◌∷◌, ◌++◌, append_assoc}
use mathlib.Core.Logic.{◌⊎◌, inl, inr}
use mathlib.Core.Path.{◌≡◌, refl, sym, ap, ap₂, subst, ◌∙◌}
use Prim.Native.Nat.{ℕ, zero, suc, ◌+◌, ◌-◌, ◌*◌, ◌≤◌, ◌<◌}
use native.Mathlib.Nat.{add-zero, add-suc, not-suc-le-zero}
use native.Mathlib.Omega.{arith}
use lib.Dec.{leb}
use borrow.Author.Tests.{leb-true, leb-false}
use lib.ListN.{length, get_or, take, drop, set, length-append, length-drop}
use lib.Seq.{append_snoc, drop-append-add, drop-cons, drop-drop, get_or_at, get_or-drop, set_at, take-take, length-take-le}
use Rattle.analog.specs.Sums.{sum_of}
use Rattle.std.proofs.lemmas.Bool.{cases_lt}
use Rattle.window.specs.Machine.{Filled}
use Rattle.window.specs.Window.{window_after, sums_after, held_after}

-- ---- the sum of a window, one code later

-- a list and its two parts
sum_parts : (j : ℕ) (codes : List ℕ) → sum_of (take j codes) + sum_of (drop j codes) ≡ sum_of codes
unfolding sum_of
sum_parts zero codes = omega arith
sum_parts (suc j) [] = refl
sum_parts (suc j) (code ∷ later) = omega (arith, sum_parts j later)

-- one code more; beyond the end it is 0
sum_next : (k : ℕ) (codes : List ℕ) → sum_of (take (suc k) codes) ≡ sum_of (take k codes) + get_or codes k 0
unfolding sum_of
sum_next zero [] = refl
sum_next (suc k) [] = refl
sum_next zero (code ∷ later) = omega arith
sum_next (suc k) (code ∷ later) = omega (arith, sum_next k later)

-- a window by places: the first k codes without those that have left
window_is : (n : ℕ) (codes : List ℕ) (k : ℕ) → k ≤ length codes → window_after n codes k ≡ drop (k - n) (take k codes)
window_is n codes k h = rw (length-take-le k codes h)

-- the first codes are those that have left and those in the window
left_and_held :
    (n : ℕ) (codes : List ℕ) (k : ℕ) → k ≤ length codes
    → sum_of (take (k - n) codes) + sum_of (window_after n codes k) ≡ sum_of (take k codes)
left_and_held n codes k h =
    ap₂
    (λ (left held : List ℕ). sum_of left + sum_of held)
    (sym (take-take (k - n) k codes (omega arith)))
    (window_is n codes k h)
    ∙ sum_parts (k - n) (take k codes)

-- one code more: it joins those that have left and those in the window
one_more :
    (n : ℕ) (codes : List ℕ) (k : ℕ) → k < length codes
    → sum_of (take (suc k - n) codes) + sum_of (window_after n codes (suc k))
    ≡ sum_of (take (k - n) codes) + sum_of (window_after n codes k) + get_or codes k 0
one_more n codes k h =
    omega (arith, left_and_held n codes k (omega arith), left_and_held n codes (suc k) (omega arith), sum_next k codes)

-- while the window fills, a code joins it and none leaves
pub fills :
    (n : ℕ) (codes : List ℕ) (k : ℕ) → k < n → k < length codes
    → sum_of (window_after n codes (suc k)) ≡ sum_of (window_after n codes k) + get_or codes k 0
fills n codes k room h =
    let same : suc k - n ≡ k - n = omega arith in
    let left : sum_of (take (suc k - n) codes) ≡ sum_of (take (k - n) codes) = ap (λ (j : ℕ). sum_of (take j codes)) same in
    omega (arith, one_more n codes k h, left)

-- once it is full it slides: a code joins it, and the one N places before leaves
pub slides :
    (n : ℕ) (codes : List ℕ) (k : ℕ) → n ≤ k → k < length codes
    → sum_of (window_after n codes (suc k)) + get_or codes (k - n) 0 ≡ sum_of (window_after n codes k) + get_or codes k 0
slides n codes k full h =
    let next : suc k - n ≡ suc (k - n) = omega arith in
    let left : sum_of (take (suc k - n) codes) ≡ sum_of (take (suc (k - n)) codes) = ap (λ (j : ℕ). sum_of (take j codes)) next in
    omega (arith, one_more n codes k h, left, sum_next (k - n) codes)

-- codes of 16 bits: no window of N has a greater sum than N of the greatest
module _ (codes : List ℕ) (most : (i : ℕ) → get_or codes i 0 < 0x10000) where
  first_most : (j m : ℕ) → sum_of (take (j + m) codes) ≤ sum_of (take j codes) + 65_535 * m
  first_most j zero = rw (add-zero j) (omega arith)
  first_most j (suc m) =
      rw (add-suc j m)
      (omega (arith, first_most j m, sum_next (j + m) codes, most (j + m)))

  pub window_most : (n k : ℕ) → k ≤ length codes → sum_of (window_after n codes k) ≤ 65_535 * n
  window_most n k h =
      let size : ℕ = k - (k - n) in
      let whole : k - n + size ≡ k = omega arith in
      let most-of : sum_of (take k codes) ≤ sum_of (take (k - n) codes) + 65_535 * size =
      subst (λ (i : ℕ). sum_of (take i codes) ≤ sum_of (take (k - n) codes) + 65_535 * size) whole (first_most (k - n) size) in
      omega (arith, left_and_held n codes k h, most-of)

pub length_sums : (n : ℕ) (codes : List ℕ) (k : ℕ) → length (sums_after n codes k) ≡ k
unfolding sums_after
length_sums n codes zero = refl
length_sums n codes (suc k) =
    omega (arith, length-append (sums_after n codes k) (sum_of (window_after n codes (suc k)) ∷ []), length_sums n codes k)

-- ---- the two loops

-- the sums after the first codes, in front of what the output held
pub record Summing (n : ℕ) (codes first out : List ℕ) (sum at : ℕ) : Type 0 where
  pub within : at ≤ length codes
  pub total : sum ≡ sum_of (window_after n codes at)
  pub holds : out ≡ sums_after n codes at ++ drop at first

module _ (n : ℕ) (codes first : List ℕ) where
  pub summing_start : Summing n codes first first 0 0
  unfolding sum_of sums_after
  summing_start = grind arith

  -- and from a window that has filled
  pub summing_from : (sum : ℕ) → Filled n codes sum first → Summing n codes first first sum n
  summing_from sum f = grind arith

  pub summing_turn :
      (out : List ℕ) (sum at next : ℕ) → length codes ≤ length first → at < length codes
      → next ≡ sum_of (window_after n codes (suc at))
      → Summing n codes first out sum at → Summing n codes first (set out at next) next (suc at)
  unfolding sums_after
  summing_turn out sum at next room h e s =
      let sums = sums_after n codes at in
      let rest = drop (suc at) first in
      record {
        within = omega arith;
        total = e;
        holds =
            ap (λ (l : List ℕ). set l at next) (s.holds ∙ ap (λ (l : List ℕ). sums ++ l) (drop-cons first at 0 (omega arith)))
            ∙ set_at sums (get_or first at 0) rest next at (length_sums n codes at)
            ∙ sym (append_snoc sums next rest)
            ∙ ap (λ (last : ℕ). sums ++ (last ∷ []) ++ rest) e;
      }

-- ---- the output

-- a sum at its place
pub sum_at :
    (n : ℕ) (codes : List ℕ) (count k : ℕ) (rest : List ℕ) → k < count
    → get_or (sums_after n codes count ++ rest) k 0 ≡ sum_of (window_after n codes (suc k))
unfolding sums_after
sum_at n codes zero k rest h = absurd (not-suc-le-zero h)
sum_at n codes (suc m) k rest h =
    ap (λ (l : List ℕ). get_or l k 0) (append_assoc sums (last ∷ []) rest)
    ∙ go (λ earlier. sum_at n codes m k (last ∷ rest) earlier) (cases_lt k m)
  where
    sums : List ℕ
    sums = sums_after n codes m

    last : ℕ
    last = sum_of (window_after n codes (suc m))

    go :
        (k < m → get_or (sums ++ last ∷ rest) k 0 ≡ sum_of (window_after n codes (suc k))) → (k < m) ⊎ (m ≤ k)
        → get_or (sums ++ last ∷ rest) k 0 ≡ sum_of (window_after n codes (suc k))
    go before (inl earlier) = before earlier
    go before (inr from) =
        let same : m ≡ k = omega (arith, from, h) in
        get_or_at sums last rest 0 k (length_sums n codes m ∙ same)
        ∙ ap (λ (i : ℕ). sum_of (window_after n codes (suc i))) same

-- the output's size stays, and what it held past the sums
pub sums_size :
    (n : ℕ) (codes : List ℕ) (at : ℕ) (first : List ℕ) → at ≤ length first
    → length (sums_after n codes at ++ drop at first) ≡ length first
sums_size n codes at first h =
    omega (arith, length-append (sums_after n codes at) (drop at first), length_sums n codes at, length-drop at first)

pub past_drop :
    (n : ℕ) (codes : List ℕ) (at k : ℕ) (first : List ℕ) → at ≤ k
    → drop k (sums_after n codes at ++ drop at first) ≡ drop k first
past_drop n codes at k first h =
    let sums = sums_after n codes at in
    let place : length sums + (k - at) ≡ k = omega (arith, length_sums n codes at) in
    let from : at + (k - at) ≡ k = omega arith in
    ap (λ (i : ℕ). drop i (sums ++ drop at first)) (sym place)
    ∙ drop-append-add sums (drop at first) (k - at)
    ∙ drop-drop (k - at) at first
    ∙ ap (λ (i : ℕ). drop i first) from

-- ---- what a run of any length leaves

-- while a window fills, its length does not matter
sums_filling : (n m : ℕ) (codes : List ℕ) (k : ℕ) → k ≤ n → k ≤ m → k ≤ length codes → sums_after n codes k ≡ sums_after m codes k
unfolding sums_after
sums_filling n m codes zero a b h = refl
sums_filling n m codes (suc k) a b h =
    let none : suc k - n ≡ suc k - m = omega arith in
    let same : window_after n codes (suc k) ≡ window_after m codes (suc k) =
    window_is n codes (suc k) h ∙ ap (λ (j : ℕ). drop j (take (suc k) codes)) none ∙ sym (window_is m codes (suc k) h) in
    ap₂
    (λ (sums window : List ℕ). sums ++ (sum_of window ∷ []))
    (sums_filling n m codes k (omega arith) (omega arith) (omega arith))
    same

-- so a window as long as the run serves a run that does not fill it
pub sums_held : (n : ℕ) (codes : List ℕ) → sums_after (held_after n (length codes)) codes (length codes) ≡ sums_after n codes (length codes)
sums_held n codes = go (leb n (length codes)) refl
  where
    go : (full : Bool) → leb n (length codes) ≡ full → sums_after (cond full n (length codes)) codes (length codes) ≡ sums_after n codes (length codes)
    go true e = refl
    go false e =
        let fewer = leb-false n (length codes) e in
        sums_filling (length codes) n codes (length codes) (omega arith) (omega (arith, fewer)) (omega arith)

-- the window of a run holds no more codes than the run has
held_within : (n count : ℕ) → held_after n count ≤ count
held_within n count = grind arith

-- what the window leaves when it has filled and then slid to the end
pub slid_is :
    (n full : ℕ) (codes first filled out : List ℕ) → full ≡ held_after n (length codes)
    → filled ≡ sums_after full codes full ++ drop full first → out ≡ sums_after full codes (length codes) ++ drop (length codes) filled
    → out ≡ sums_after n codes (length codes) ++ drop (length codes) first
slid_is n full codes first filled out held f e =
    e
    ∙ ap₂
    (λ (sums rest : List ℕ). sums ++ rest)
    (ap (λ (m : ℕ). sums_after m codes (length codes)) held ∙ sums_held n codes)
    (ap (drop (length codes)) f ∙ past_drop full codes full (length codes) first (omega (arith, held, held_within n (length codes))))

-- places past the sums
pub past_sums :
    (n : ℕ) (codes : List ℕ) (k : ℕ) (output : List ℕ) → length codes ≤ k
    → get_or (sums_after n codes (length codes) ++ drop (length codes) output) k 0 ≡ get_or output k 0
past_sums n codes k output h =
    let all = sums_after n codes (length codes) ++ drop (length codes) output in
    ap (λ (i : ℕ). get_or all i 0) (sym (add-zero k))
    ∙ sym (get_or-drop k all 0 0)
    ∙ ap (λ (l : List ℕ). get_or l 0 0) (past_drop n codes (length codes) k output h)
    ∙ get_or-drop k output 0 0
    ∙ ap (λ (i : ℕ). get_or output i 0) (add-zero k)

-- the window has N codes, or the codes so far where these are fewer
pub held_is : (n : ℕ) (codes : List ℕ) (count : ℕ) → count ≤ length codes → length (window_after n codes count) ≡ held_after n count
held_is n codes count h =
    ap length (window_is n codes count h)
    ∙ length-drop (count - n) (take count codes)
    ∙ ap (λ (m : ℕ). m - (count - n)) (length-take-le count codes h)
    ∙ go (leb n count) refl
  where
    go : (full : Bool) → leb n count ≡ full → count - (count - n) ≡ cond full n count
    go true e = omega (arith, leb-true n count e)
    go false e = omega (arith, leb-false n count e)
