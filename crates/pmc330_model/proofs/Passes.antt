-- The schedule by passes: a conversion begins a whole number of passes after the one at its place in the first of them.
use mathlib.Core.Bool.{Bool, true, false, cond, ◌&&◌}
use mathlib.Core.Logic.{⊎_elim}
use mathlib.Core.Path.{◌≡◌, sym, ap, ap₂, ◌∙◌}
use Prim.Native.Nat.{ℕ, suc, ◌+◌, ◌-◌, ◌*◌, ◌/◌, ◌%◌, ◌≤◌, ◌<◌}
use native.Mathlib.Nat.{add-mul, mul_assoc, suc-mul, zero-mul, mul-le-mul_right, div-add-mod', div-lt_iff_lt-mul, mul-add-div_right, mul-add-mod_self_right, mod-lt, mod-eq_of_lt, div-eq_of_lt}
use native.Mathlib.Omega.{arith}
use lib.Dec.{eqb}
use Rattle.std.proofs.lemmas.Bool.{cases_lt}
use Rattle.pmc330_model.specs.Schedule.{pass_length, interval, is_differential, is_uniform, channel_of, in_odd_pass, slot_of, burst_delay, begins_at, pass_ticks}
use Rattle.pmc330_model.specs.ChannelWait.{slot_passes}
use Rattle.pmc330_model.specs.declared.Registers.{Registers}

-- of periods of some ticks, the one whose moment, 64 ticks later, falls into a span of one period and some ticks more
pub record Falls (T t period more moment : ℕ) : Type 0 where
  pub q : ℕ
  pub after : t < T + (q * period + moment) + 64
  pub by : T + (q * period + moment) + 64 ≤ t + (period + more)

pub falls : (T t period more moment : ℕ) → T ≤ t → 0 < period → moment + 64 ≤ period + more → Falls T t period more moment
falls T t period more moment from some within =
    ⊎_elim
    (λ (early : t < T + moment + 64).
    record { q = 0; after = rw (zero-mul period) (omega arith); by = rw (zero-mul period) (omega arith) })
    (λ (late : T + moment + 64 ≤ t).
    let passed : ℕ = t - (T + moment + 64) in
    let whole = div-add-mod' passed period in
    let rest = mod-lt passed some in
    record {
      q = suc (passed / period);
      after = rw (suc-mul (passed / period) period) (omega arith);
      by = rw (suc-mul (passed / period) period) (omega arith);
    })
    (cases_lt t (T + moment + 64))

module _ (r : Registers) where
  abbrev m : ℕ
  m = pass_length r

  some_places : 0 < m
  some_places = omega arith

  -- when the conversion at a place of a pass begins, counted from the pass
  abbrev place_ticks : ℕ → ℕ
  place_ticks place = cond (is_uniform r) ((place + 1) * interval r) (120 * place)

  -- a conversion begins within its pass
  place_within : (place : ℕ) → place < m → place_ticks place ≤ pass_ticks r
  place_within place h =
      let places : (place + 1) * interval r ≤ m * interval r = mul-le-mul_right (interval r) (omega arith) in
      grind (arith, places)

  uniform_closed : (k I : ℕ) → (k + 1) * I ≡ k / m * (m * I) + (k % m + 1) * I
  uniform_closed k I =
      let parts : k * I ≡ k / m * (m * I) + k % m * I = sym (ap (λ (n : ℕ). n * I) (div-add-mod' k m)) ∙ add-mul (k / m * m) (k % m) I ∙ ap (λ (n : ℕ). n + k % m * I) (mul_assoc (k / m) m I) in
      rw (add-mul k 1 I, add-mul (k % m) 1 I) (omega arith)

  -- one closed form for both modes: whole passes, and the place in the pass
  closed : (k : ℕ) → begins_at r k ≡ k / m * pass_ticks r + place_ticks (k % m)
  unfolding begins_at
  closed k = grind (arith, uniform_closed k (interval r))

  -- n passes later
  module _ (n q i : ℕ) where
    abbrev later : ℕ
    later = q * (n * m) + i

    later_pass : later / m ≡ q * n + i / m
    later_pass = rw (← mul_assoc q n m) (mul-add-div_right some_places (q * n) i)

    later_place : later % m ≡ i % m
    later_place = rw (← mul_assoc q n m) (mul-add-mod_self_right (q * n) m i)

    pub later_begins : begins_at r later ≡ q * (n * pass_ticks r) + begins_at r i
    later_begins =
        let moved : (q * n + i / m) * pass_ticks r ≡ q * (n * pass_ticks r) + i / m * pass_ticks r = add-mul (q * n) (i / m) (pass_ticks r) ∙ ap (λ (a : ℕ). a + i / m * pass_ticks r) (mul_assoc q n (pass_ticks r)) in
        rw (closed later, later_pass, later_place, closed i) (omega arith)

    pub later_channel : channel_of r later ≡ channel_of r i
    later_channel = ap (λ (place : ℕ). r.start + place) later_place

  -- a slot comes again after one pass, and if differential after two
  pub later_slot : (q i : ℕ) → slot_of r (q * (slot_passes r * m) + i) ≡ slot_of r i
  later_slot q i = go (is_differential r)
    where
      turns : (q * 2 + i / m) % 2 ≡ i / m % 2
      turns = mul-add-mod_self_right q 2 (i / m)

      go :
          (d : Bool)
          → channel_of r (q * (cond d 2 1 * m) + i) + cond (d && in_odd_pass r (q * (cond d 2 1 * m) + i)) 16 0
          ≡ channel_of r i + cond (d && in_odd_pass r i) 16 0
      go true =
          ap₂ (λ (channel : ℕ) (pass : ℕ). channel + cond (eqb (pass % 2) 1) 16 0) (later_channel 2 q i) (later_pass 2 q i)
          ∙ ap (λ (parity : ℕ). channel_of r i + cond (eqb parity 1) 16 0) turns
      go false = ap (λ (channel : ℕ). channel + 0) (later_channel 1 q i)

  -- a conversion of the first n passes begins by their end
  pub begins_within : (n i : ℕ) → i < n * m → begins_at r i ≤ n * pass_ticks r
  begins_within n i h =
      let pass : suc (i / m) ≤ n = (div-lt_iff_lt-mul some_places).1 h in
      let most = mul-le-mul_right (pass_ticks r) pass in
      rw (closed i) (omega (arith, rw (suc-mul (i / m) (pass_ticks r)) at most, place_within (i % m) (mod-lt i some_places)))

  -- in burst mode even its store comes by the end of the first pass
  pub stored_within : is_uniform r ≡ false → (i : ℕ) → i < m → begins_at r i + 64 ≤ pass_ticks r
  unfolding begins_at
  stored_within burst i h = rw (burst, div-eq_of_lt h, mod-eq_of_lt h, zero-mul (120 * m + burst_delay r)) (omega arith)

  pub pass_some : (is_uniform r ≡ true → 64 ≤ interval r) → 0 < pass_ticks r
  pass_some slow = grind arith
