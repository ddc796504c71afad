-- A tick: what the countdowns say is due is what the schedule says, and the timer stands where it should after it.
use mathlib.Core.Bool.{Bool, true, false, not, cond, ◌&&◌}
use mathlib.Core.Logic.{◌⊎◌, inl, inr, ⊎_elim}
use mathlib.Core.Path.{◌≡◌, refl, sym, ap, ◌∙◌}
use Prim.Native.Nat.{ℕ, suc, ◌+◌, ◌-◌, ◌%◌, ◌≤◌, ◌<◌}
use native.Mathlib.Nat.{eq-or-lt_of_le, add-zero, zero-mod}
use native.Mathlib.Omega.{arith}
use lib.Dec.{leb}
use Rattle.std.specs.Prelude.{Some, None}
use Rattle.std.proofs.lemmas.Bool.{cases_lt, cases_eq}
use Rattle.schedule.specs.Timer.{started_timer, elapsed_by, begun_timer}
use Rattle.schedule.specs.Schedule.{length_of, begins, ends_pass, is_scheduled, IsApart, due_at}
use Rattle.schedule.specs.Standing.{InFlight, AllStored, ToCome, NoMore, Standing}
use Rattle.schedule.specs.declared.Plan.{Plan}
use Rattle.schedule.specs.declared.Timer.{Timer}
use Rattle.schedule.proofs.Places.{next_place, first_place}
use Rattle.schedule.proofs.Schedule.{inside_or_ends, ends_is, inside_is, step_after, step, step_long, before, unscheduled_later, scheduled_next, scheduled_first, begins_first, due_found, due_none}

-- the timer after conversion k began, of whatever plan
module _ (p : Plan) (k : ℕ) (u : Timer) (at : u.index ≡ k % length_of p) where
  pub begun_ends : (begun_timer p u).ends ≡ ends_pass p k
  begun_ends = go (inside_or_ends p k)
    where
      go : (suc (k % length_of p) ≡ length_of p) ⊎ (suc (k % length_of p) < length_of p) → leb p.last u.index ≡ ends_pass p k
      go (inl e) = rw (ends_is p k e, at) (grind arith)
      go (inr h) = rw (inside_is p k h, at) (grind arith)

  pub begun_index : (begun_timer p u).index ≡ suc k % length_of p
  begun_index = ap (λ (ends : Bool). cond ends 0 (u.index + 1)) begun_ends ∙ go (inside_or_ends p k)
    where
      go : (suc (k % length_of p) ≡ length_of p) ⊎ (suc (k % length_of p) < length_of p) → cond (ends_pass p k) 0 (u.index + 1) ≡ suc k % length_of p
      go (inl e) = rw (ends_is p k e) (sym (first_place k (length_of p) e))
      go (inr h) = rw (inside_is p k h, at) (omega (arith, next_place k (length_of p) h))

module _ (p : Plan) (apart : IsApart p) (start : ℕ) where
  -- every conversion before the next one has begun
  began_before : (tick k : ℕ) (t : Timer) → InFlight p start tick k t ⊎ AllStored p start tick k t → (i : ℕ) → i < k → start + begins p i ≤ tick
  began_before tick k t (inl flight) i h =
      ⊎_elim
      (λ (same : i ≡ flight.j). rw same (omega (arith, flight.due, flight.most)))
      (λ (less : i < flight.j). omega (arith, flight.due, flight.most, before p apart i flight.j less))
      (eq-or-lt_of_le (at_most flight.last h))
    where
      at_most : {n j : ℕ} → n ≡ suc j → i < n → i ≤ j
      at_most e less = omega arith
  began_before tick k t (inr all) i h = omega (arith, all.past i h)

  -- a conversion that begins at its tick leaves the timer where it should stand
  module _ (tick k : ℕ) (u : Timer) (running : u.running ≡ true) (at : u.index ≡ k % length_of p) (scheduled : is_scheduled p k ≡ true)
      (now : start + begins p k ≡ tick) where
    next_after : ToCome p start tick (suc k) (begun_timer p u) ⊎ NoMore p (suc k) (begun_timer p u)
    next_after = go (p.single && ends_pass p k) refl
      where
        lead : (begun_timer p u).lead ≡ cond (p.single && ends_pass p k) 0 (step_after p (ends_pass p k))
        lead = ap (λ (ends : Bool). cond (p.single && ends) 0 (cond ends p.turn p.step)) (begun_ends p k u at)

        go : (over : Bool) → (p.single && ends_pass p k) ≡ over → ToCome p start tick (suc k) (begun_timer p u) ⊎ NoMore p (suc k) (begun_timer p u)
        go true e =
            inr (record { unscheduled = scheduled_next p k scheduled ∙ ap not e; none = lead ∙ rw e })
        go false e =
            let long : (begun_timer p u).lead ≡ step_after p (ends_pass p k) = lead ∙ rw e in
            inl
            (record {
              scheduled = scheduled_next p k scheduled ∙ ap not e;
              some = omega (arith, apart.some, step_long p apart (ends_pass p k));
              due = omega (arith, step p k);
            })

    pub begun_stands : Standing p start tick (suc k) (begun_timer p u)
    begun_stands =
        record {
          running = running;
          index = begun_index p k u at;
          next = next_after;
          flight =
              inl
              (record {
                j = k;
                last = refl;
                scheduled = scheduled;
                some = apart.some;
                most = omega arith;
                due = omega arith;
                ends = begun_ends p k u at;
              });
        }

  -- a timer before its first beginning
  pub started_stands : 0 < p.first → Standing p start start 0 (started_timer p)
  started_stands some =
      record {
        running = refl;
        index = sym (zero-mod (length_of p));
        next = inl (record { scheduled = scheduled_first p; some = some; due = ap (λ (n : ℕ). start + n) (begins_first p) });
        flight = inr (record { none = refl; past = λ i h. absurd (omega arith) });
      }

  -- ---- the store of a tick

  module _ (tick k : ℕ) (t : Timer) (stands : Standing p start tick k t) where
    -- a conversion later than all that have begun cannot be stored yet
    not_yet : (i : ℕ) → is_scheduled p i ≡ true → k ≤ i → start + begins p i + p.delay ≡ suc tick → ⊥
    not_yet i scheduled h e = go stands.next
      where
        go : ToCome p start tick k t ⊎ NoMore p k t → ⊥
        go (inl next) =
            ⊎_elim
            (λ (same : k ≡ i). omega (arith, apart.some, rw same at next.due))
            (λ (more : k < i). omega (arith, apart.some, next.due, before p apart k i more))
            (eq-or-lt_of_le h)
        go (inr next) = cc (unscheduled_later p k i next.unscheduled h)

    before_last : (j i : ℕ) → k ≡ suc j → i < k → (i ≡ j) ⊎ (i < j)
    before_last j i e h = grind arith

    -- a store is due: that of conversion j
    pub record Stores (j : ℕ) : Type 0 where
      pub last : k ≡ suc j
      pub scheduled : is_scheduled p j ≡ true
      pub one : t.lag ≡ 1
      pub found : due_at p p.delay start (suc tick) ≡ Some j
      pub ends : t.ends ≡ ends_pass p j

    pub record Waits : Type 0 where
      pub other : t.lag ≡ 1 → ⊥
      pub none : due_at p p.delay start (suc tick) ≡ None
      pub flight : InFlight p start (suc tick) k (elapsed_by 1 t) ⊎ AllStored p start (suc tick) k (elapsed_by 1 t)

    all_wait : AllStored p start tick k t → Waits
    all_wait all =
        record {
          other = λ e. omega (arith, all.none);
          none = due_none p apart start p.delay (suc tick) (λ i scheduled e. go i scheduled e (cases_lt i k));
          flight = inr (record { none = omega (arith, all.none); past = λ i h. omega (arith, all.past i h) });
        }
      where
        go : (i : ℕ) → is_scheduled p i ≡ true → start + begins p i + p.delay ≡ suc tick → (i < k) ⊎ (k ≤ i) → ⊥
        go i scheduled e (inl early) = omega (arith, all.past i early)
        go i scheduled e (inr more) = not_yet i scheduled more e

    module _ (flight : InFlight p start tick k t) where
      earlier_stored : (i : ℕ) → i < flight.j → start + begins p i + p.delay ≤ tick
      earlier_stored i h = omega (arith, flight.due, flight.most, before p apart i flight.j h)

      flight_waits : (t.lag ≡ 1 → ⊥) → Waits
      flight_waits more =
          record {
            other = more;
            none = due_none p apart start p.delay (suc tick) (λ i scheduled e. go i scheduled e (cases_lt i k));
            flight =
                inl
                (record {
                  j = flight.j;
                  last = flight.last;
                  scheduled = flight.scheduled;
                  some = at_least flight.some more;
                  most = omega (arith, flight.most);
                  due = one_less flight.due flight.some;
                  ends = flight.ends;
                });
          }
        where
          at_least : {n : ℕ} → 0 < n → (n ≡ 1 → ⊥) → 0 < n - 1
          at_least some other = omega arith

          one_less : {x n : ℕ} → x ≡ tick + n → 0 < n → x ≡ suc tick + (n - 1)
          one_less e some = omega arith

          go : (i : ℕ) → is_scheduled p i ≡ true → start + begins p i + p.delay ≡ suc tick → (i < k) ⊎ (k ≤ i) → ⊥
          go i scheduled e (inl early) =
              ⊎_elim
              (λ (same : i ≡ flight.j). more (omega (arith, flight.due, rw same at e)))
              (λ (less : i < flight.j). omega (arith, earlier_stored i less))
              (before_last flight.j i flight.last early)
          go i scheduled e (inr later) = not_yet i scheduled later e

      flight_stores : t.lag ≡ 1 → Stores flight.j
      flight_stores one =
          record {
            last = flight.last;
            scheduled = flight.scheduled;
            one = one;
            found = due_found p apart start p.delay (suc tick) flight.j flight.scheduled (omega (arith, flight.due, one));
            ends = flight.ends;
          }

      -- after the store nothing is in progress
      pub stored_all : t.lag ≡ 1 → (i : ℕ) → i < k → start + begins p i + p.delay ≤ suc tick
      stored_all one i h = go (before_last flight.j i flight.last h)
        where
          go : (i ≡ flight.j) ⊎ (i < flight.j) → start + begins p i + p.delay ≤ suc tick
          go (inl same) = rw same (omega (arith, flight.due, one))
          go (inr less) = omega (arith, earlier_stored i less)

    -- what the store half of a tick finds
    pub data StoreHalf : Type 0 where
      stores : (j : ℕ) → Stores j → AllStored p start (suc tick) k (elapsed_by 1 t) → StoreHalf
      waits : Waits → StoreHalf

    pub store_half : StoreHalf
    store_half =
        ⊎_elim
        (λ (flight : InFlight p start tick k t).
        ⊎_elim
        (λ (one : t.lag ≡ 1). stores flight.j (flight_stores flight one) (record { none = omega (arith, one); past = stored_all flight one }))
        (λ (other : t.lag ≡ 1 → ⊥). waits (flight_waits flight other))
        (cases_eq t.lag 1))
        (λ (all : AllStored p start tick k t). waits (all_wait all))
        stands.flight

    -- ---- the beginning of a tick, once its store is made and the scan goes on: u is the timer then

    pub record Between (u : Timer) : Type 0 where
      pub running : u.running ≡ true
      pub index : u.index ≡ t.index
      pub lead : u.lead ≡ t.lead - 1
      pub flight : InFlight p start (suc tick) k u ⊎ AllStored p start (suc tick) k u

    module _ (u : Timer) (between : Between u) where
      began : (i : ℕ) → i < k → start + begins p i ≤ tick
      began = began_before tick k t stands.flight

      pub record Begins : Type 0 where
        pub one : t.lead ≡ 1
        pub found : due_at p 0 start (suc tick) ≡ Some k
        pub after : Standing p start (suc tick) (suc k) (begun_timer p u)

      pub record Stays : Type 0 where
        pub other : t.lead ≡ 1 → ⊥
        pub none : due_at p 0 start (suc tick) ≡ None
        pub after : Standing p start (suc tick) k u

      begins_now : ToCome p start tick k t → t.lead ≡ 1 → Begins
      begins_now next one =
          let now : start + begins p k ≡ suc tick = omega (arith, next.due) in
          record {
            one = one;
            found = due_found p apart start 0 (suc tick) k next.scheduled (add-zero _ ∙ now);
            after = begun_stands (suc tick) k u between.running (between.index ∙ stands.index) next.scheduled now;
          }

      -- nothing begins
      stays_where :
          (t.lead ≡ 1 → ⊥) → ((i : ℕ) → is_scheduled p i ≡ true → start + begins p i + 0 ≡ suc tick → ⊥)
          → ToCome p start (suc tick) k u ⊎ NoMore p k u → Stays
      stays_where other fails next =
          record {
            other = other;
            none = due_none p apart start 0 (suc tick) fails;
            after =
                record {
                  running = between.running;
                  index = between.index ∙ stands.index;
                  next = next;
                  flight = between.flight;
                };
          }

      other_begins : (i : ℕ) → start + begins p i + 0 ≡ suc tick → (i < k) ⊎ (k ≤ i) → tick + 2 ≤ start + begins p k → ⊥
      other_begins i e (inl early) late = omega (arith, began i early)
      other_begins i e (inr later) late =
          ⊎_elim
          (λ (same : k ≡ i). omega (arith, rw same at late))
          (λ (more : k < i). omega (arith, before p apart k i more))
          (eq-or-lt_of_le later)

      comes_later : ToCome p start tick k t → (t.lead ≡ 1 → ⊥) → Stays
      comes_later next more =
          let two : 2 ≤ t.lead = at_least next.some more in
          stays_where more
          (λ i scheduled e. other_begins i e (cases_lt i k) (omega (arith, next.due)))
          (inl
          (record {
            scheduled = next.scheduled;
            some = omega (arith, between.lead);
            due = omega (arith, between.lead, next.due);
          }))
        where
          at_least : {n : ℕ} → 0 < n → (n ≡ 1 → ⊥) → 2 ≤ n
          at_least some other = omega arith

      no_more : NoMore p k t → Stays
      no_more next =
          stays_where (λ e. omega (arith, next.none)) (λ i scheduled e. over i scheduled e (cases_lt i k))
          (inr (record { unscheduled = next.unscheduled; none = omega (arith, between.lead, next.none) }))
        where
          over : (i : ℕ) → is_scheduled p i ≡ true → start + begins p i + 0 ≡ suc tick → (i < k) ⊎ (k ≤ i) → ⊥
          over i scheduled e (inl early) = omega (arith, began i early)
          over i scheduled e (inr later) = cc (unscheduled_later p k i next.unscheduled later)

      pub begin_half : Begins ⊎ Stays
      begin_half =
          ⊎_elim
          (λ (next : ToCome p start tick k t).
          ⊎_elim (λ (one : t.lead ≡ 1). inl (begins_now next one)) (λ (other : t.lead ≡ 1 → ⊥). inr (comes_later next other)) (cases_eq t.lead 1))
          (λ (next : NoMore p k t). inr (no_more next))
          stands.next
