-- From the start of a scan, tick by tick: what its timer does to a board is what the schedule does.
use mathlib.Core.Bool.{Bool, true, false, cond, not, ◌&&◌}
use mathlib.Core.Logic.{◌⊎◌, inl, inr}
use mathlib.Core.Path.{◌≡◌, refl, sym, ap, ap₂, subst, ◌∙◌}
use Prim.Native.Nat.{ℕ, zero, suc, ◌+◌, ◌%◌, ◌≤◌, ◌<◌}
use native.Mathlib.Nat.{zero-mod, add-zero}
use native.Mathlib.Omega.{arith}
use lib.Dec.{eqb}
use borrow.Author.Tests.{eq-eqb, ne_eqb}
use Rattle.std.specs.Prelude.{Option, Some, None, is_some}
use Rattle.std.proofs.lemmas.Bool.{cases_lt}
use Rattle.schedule.specs.Timer.{idle_timer, started_timer, elapsed_by, begun_timer}
use Rattle.schedule.specs.Scan.{Effects, Scan, scan, elapsed, started, store_if, begin_if, is_store_due, ticked, advanced, stores_in}
use Rattle.schedule.specs.Schedule.{length_of, begins, ends_pass, is_scheduled, IsApart, due_at}
use Rattle.schedule.specs.Scheduled.{store_due, begin_due, scheduled_tick, by_schedule, stores_by_schedule}
use Rattle.schedule.specs.Sentences.{InTime}
use Rattle.schedule.specs.Standing.{AllStored, Standing}
use Rattle.schedule.specs.declared.Plan.{Plan}
use Rattle.schedule.specs.declared.Timer.{Timer}
use Rattle.schedule.proofs.Jumps.{advanced_add, stores_add, idle_tick}
use Rattle.schedule.proofs.Schedule.{scheduled_first, scheduled_next, unscheduled_later, begins_first, due_found, due_none}
use Rattle.schedule.proofs.Standing.{Stores, StoreHalf, stores, waits, store_half, Between, Begins, Stays, begin_half, begun_stands, started_stands}

abbrev one_if : Bool → ℕ
one_if b = cond b 1 0

module _ {B : Type 0} (p : Plan) (apart : IsApart p) (e : Effects B) where
  -- a single pass is over: all that it has is stored
  record Over (tick : ℕ) (t : Timer) : Type 0 where
    stopped : t.running ≡ false
    past : (i : ℕ) → is_scheduled p i ≡ true → begins p i + p.delay ≤ tick

  data Place (tick : ℕ) (t : Timer) : Type 0 where
    stands : (k : ℕ) → Standing p 0 tick k t → Place tick t
    over : Over tick t → Place tick t

  -- a scan after a tick, with its board as it should be
  record After (tick : ℕ) (s : Scan B) (b : B) : Type 0 where
    place : Place tick s.timer
    board : s.board ≡ b

  after_is : (tick : ℕ) (s t : Scan B) (b c : B) → s ≡ t → b ≡ c → After tick t c → After tick s b
  after_is tick s t b c same alike h = subst (λ (x : Scan B). After tick x b) (sym same) (subst (After tick t) (sym alike) h)

  -- nothing is due later
  none_due : (delay later : ℕ) → ((i : ℕ) → is_scheduled p i ≡ true → begins p i + delay < later) → due_at p delay 0 later ≡ None
  none_due delay later past = due_none p apart 0 delay later (λ i scheduled e. omega (arith, past i scheduled))

  begins_then : (x : Scan B) → x.timer.running ≡ true → begin_if p e true x ≡ scan (begun_timer p x.timer) (e.taken x.timer.index x.board)
  begins_then x running = ap (λ (r : Bool). cond r (scan (begun_timer p x.timer) (e.taken x.timer.index x.board)) x) running

  module _ (n k : ℕ) (s : Scan B) (stand : Standing p 0 n k s.timer) where
    -- the beginning of a tick
    begin_after :
        (x : Scan B) → Between p apart 0 n k s.timer stand x.timer
        → After (suc n) (begin_if p e (eqb s.timer.lead 1) x) (begin_due p e (due_at p 0 0 (suc n)) x.board)
    unfolding begin_due
    begin_after x between = go (begin_half p apart 0 n k s.timer stand x.timer between)
      where
        go :
            Begins p apart 0 n k s.timer stand x.timer between ⊎ Stays p apart 0 n k s.timer stand x.timer between
            → After (suc n) (begin_if p e (eqb s.timer.lead 1) x) (begin_due p e (due_at p 0 0 (suc n)) x.board)
        go (inl h) =
            after_is (suc n) _ (scan (begun_timer p x.timer) (e.taken x.timer.index x.board)) _ (e.taken (k % length_of p) x.board)
            (ap (λ (due : Bool). begin_if p e due x) (eq-eqb s.timer.lead 1 h.one) ∙ begins_then x between.running)
            (ap (λ (due : Option ℕ). begin_due p e due x.board) h.found)
            (record { place = stands (suc k) h.after; board = ap (λ (i : ℕ). e.taken i x.board) (between.index ∙ stand.index) })
        go (inr h) =
            after_is (suc n) _ x _ x.board
            (ap (λ (due : Bool). begin_if p e due x) (ne_eqb s.timer.lead 1 h.other))
            (ap (λ (due : Option ℕ). begin_due p e due x.board) h.none)
            (record { place = stands k h.after; board = refl })

    ticked_by : (due : Bool) → eqb s.timer.lag 1 ≡ due → ticked p e s ≡ begin_if p e (eqb s.timer.lead 1) (store_if p e due (elapsed 1 s))
    unfolding ticked
    ticked_by due d =
        ap₂ (λ (runs stores : Bool). cond runs (begin_if p e (eqb s.timer.lead 1) (store_if p e stores (elapsed 1 s))) s) stand.running d

    idle_begins : (due : Bool) (b : B) → begin_if p e due (scan idle_timer b) ≡ scan idle_timer b
    idle_begins true b = refl
    idle_begins false b = refl

    -- the last conversion of a single pass is stored
    ends_after : (j : ℕ) → Stores p apart 0 n k s.timer stand j → AllStored p 0 (suc n) k (elapsed_by 1 s.timer) → (p.single && s.timer.ends) ≡ true
        → After (suc n) (ticked p e s) (scheduled_tick p e (suc n) s.board)
    unfolding store_due begin_due
    ends_after j h all ends =
        after_is (suc n) _ (scan idle_timer (e.stored s.timer.ends s.board)) _ (e.stored (ends_pass p j) s.board)
        (ticked_by true (eq-eqb s.timer.lag 1 h.one)
        ∙ ap (λ (idle : Bool). begin_if p e (eqb s.timer.lead 1) (scan (cond idle idle_timer (elapsed_by 1 s.timer)) (e.stored s.timer.ends s.board))) ends
        ∙ idle_begins (eqb s.timer.lead 1) (e.stored s.timer.ends s.board))
        (ap₂ (λ (begun stored : Option ℕ). begin_due p e begun (store_due p e stored s.board))
        (none_due 0 (suc n) (λ i scheduled. omega (arith, past i scheduled, apart.some)))
        h.found)
        (record { place = over (record { stopped = refl; past = past }); board = ap (λ (last : Bool). e.stored last s.board) h.ends })
      where
        no_more : is_scheduled p k ≡ false
        no_more =
            ap (is_scheduled p) h.last
            ∙ scheduled_next p j h.scheduled
            ∙ ap (λ (last : Bool). not (p.single && last)) (sym h.ends)
            ∙ ap not ends

        past : (i : ℕ) → is_scheduled p i ≡ true → begins p i + p.delay ≤ suc n
        past i scheduled = go (cases_lt i k)
          where
            go : (i < k) ⊎ (k ≤ i) → begins p i + p.delay ≤ suc n
            go (inl early) = omega (arith, all.past i early)
            go (inr later) = cc (unscheduled_later p k i no_more later, scheduled)

    -- a tick, where a scan stands in its schedule
    tick_stands : After (suc n) (ticked p e s) (scheduled_tick p e (suc n) s.board)
    unfolding store_due
    tick_stands = go (store_half p apart 0 n k s.timer stand)
      where
        stores_on : (j : ℕ) → Stores p apart 0 n k s.timer stand j → AllStored p 0 (suc n) k (elapsed_by 1 s.timer) → (ends : Bool) → (p.single && s.timer.ends) ≡ ends
            → After (suc n) (ticked p e s) (scheduled_tick p e (suc n) s.board)
        stores_on j h all true ends = ends_after j h all ends
        stores_on j h all false on =
            after_is (suc n) _ (begin_if p e (eqb s.timer.lead 1) (scan (elapsed_by 1 s.timer) (e.stored s.timer.ends s.board)))
            _ (begin_due p e (due_at p 0 0 (suc n)) (e.stored s.timer.ends s.board))
            (ticked_by true (eq-eqb s.timer.lag 1 h.one)
            ∙ ap (λ (idle : Bool). begin_if p e (eqb s.timer.lead 1) (scan (cond idle idle_timer (elapsed_by 1 s.timer)) (e.stored s.timer.ends s.board))) on)
            (ap (λ (due : Option ℕ). begin_due p e (due_at p 0 0 (suc n)) (store_due p e due s.board)) h.found
            ∙ ap (λ (last : Bool). begin_due p e (due_at p 0 0 (suc n)) (e.stored last s.board)) (sym h.ends))
            (begin_after (scan (elapsed_by 1 s.timer) (e.stored s.timer.ends s.board))
            (record { running = stand.running; index = refl; lead = refl; flight = inr all }))

        go : StoreHalf p apart 0 n k s.timer stand → After (suc n) (ticked p e s) (scheduled_tick p e (suc n) s.board)
        go (stores j h all) = stores_on j h all (p.single && s.timer.ends) refl
        go (waits h) =
            after_is (suc n) _ (begin_if p e (eqb s.timer.lead 1) (elapsed 1 s)) _ (begin_due p e (due_at p 0 0 (suc n)) s.board)
            (ticked_by false (ne_eqb s.timer.lag 1 h.other))
            (ap (λ (due : Option ℕ). begin_due p e (due_at p 0 0 (suc n)) (store_due p e due s.board)) h.none)
            (begin_after (elapsed 1 s) (record { running = stand.running; index = refl; lead = refl; flight = h.flight }))

    store_stands : one_if (is_store_due s) ≡ one_if (is_some (due_at p p.delay 0 (suc n)))
    store_stands = go (store_half p apart 0 n k s.timer stand)
      where
        by : (due : Bool) (found : Option ℕ) → eqb s.timer.lag 1 ≡ due → due_at p p.delay 0 (suc n) ≡ found → one_if due ≡ one_if (is_some found)
            → one_if (is_store_due s) ≡ one_if (is_some (due_at p p.delay 0 (suc n)))
        by due found d f same =
            ap₂ (λ (runs stores : Bool). one_if (runs && stores)) stand.running d ∙ same ∙ sym (ap (λ (o : Option ℕ). one_if (is_some o)) f)

        go : StoreHalf p apart 0 n k s.timer stand → one_if (is_store_due s) ≡ one_if (is_some (due_at p p.delay 0 (suc n)))
        go (stores j h all) = by true (Some j) (eq-eqb s.timer.lag 1 h.one) h.found refl
        go (waits h) = by false None (ne_eqb s.timer.lag 1 h.other) h.none refl

  -- ---- any tick

  module _ (n : ℕ) (s : Scan B) where
    tick_over : Over n s.timer → After (suc n) (ticked p e s) (scheduled_tick p e (suc n) s.board)
    unfolding store_due begin_due
    tick_over h =
        after_is (suc n) _ s _ s.board
        (idle_tick p e s h.stopped)
        (ap₂ (λ (begun stored : Option ℕ). begin_due p e begun (store_due p e stored s.board))
        (none_due 0 (suc n) (λ i scheduled. omega (arith, h.past i scheduled, apart.some)))
        (none_due p.delay (suc n) (λ i scheduled. omega (arith, h.past i scheduled))))
        (record { place = over (record { stopped = h.stopped; past = λ i scheduled. omega (arith, h.past i scheduled) }); board = refl })

    tick_after : Place n s.timer → After (suc n) (ticked p e s) (scheduled_tick p e (suc n) s.board)
    tick_after (stands k h) = tick_stands n k s h
    tick_after (over h) = tick_over h

    store_after : Place n s.timer → one_if (is_store_due s) ≡ one_if (is_some (due_at p p.delay 0 (suc n)))
    store_after (stands k h) = store_stands n k s h
    store_after (over h) =
        ap (λ (runs : Bool). one_if (runs && eqb s.timer.lag 1)) h.stopped
        ∙ sym (ap (λ (o : Option ℕ). one_if (is_some o)) (none_due p.delay (suc n) (λ i scheduled. omega (arith, h.past i scheduled))))

  -- ---- from the start

  module _ (b : B) where
    first_least : (i : ℕ) → p.first ≤ begins p i
    unfolding begins
    first_least i = omega arith

    start_after : After 0 (started p e b) (scheduled_tick p e 0 b)
    unfolding store_due begin_due
    start_after = go (eqb p.first 0) refl
      where
        none_stored : due_at p p.delay 0 0 ≡ None
        none_stored = due_none p apart 0 p.delay 0 (λ i scheduled late. omega (arith, apart.some))

        go : (now : Bool) → eqb p.first 0 ≡ now → After 0 (started p e b) (scheduled_tick p e 0 b)
        go true now =
            let zero_first : p.first ≡ 0 = grind (arith, now) in
            let at : 0 + begins p 0 ≡ 0 = omega (arith, begins_first p, zero_first) in
            after_is 0 _ (scan (begun_timer p (started_timer p)) (e.taken 0 b)) _ (e.taken (0 % length_of p) b)
            (ap (λ (due : Bool). begin_if p e due (scan (started_timer p) b)) now)
            (ap₂ (λ (begun stored : Option ℕ). begin_due p e begun (store_due p e stored b))
            (due_found p apart 0 0 0 0 (scheduled_first p) (omega (arith, at)))
            none_stored)
            (record {
              place = stands 1 (begun_stands p apart 0 0 0 (started_timer p) refl (sym (zero-mod (length_of p))) (scheduled_first p) at);
              board = ap (λ (i : ℕ). e.taken i b) (sym (zero-mod (length_of p)));
            })
        go false now =
            let some : 0 < p.first = grind (arith, now) in
            after_is 0 _ (scan (started_timer p) b) _ b
            (ap (λ (due : Bool). begin_if p e due (scan (started_timer p) b)) now)
            (ap₂ (λ (begun stored : Option ℕ). begin_due p e begun (store_due p e stored b))
            (due_none p apart 0 0 0 (λ i scheduled early. omega (arith, some, first_least i)))
            none_stored)
            (record { place = stands 0 (started_stands p apart 0 some); board = refl })

    one_more : (n : ℕ) → advanced p e (suc n) (started p e b) ≡ ticked p e (advanced p e n (started p e b))
    unfolding advanced
    one_more n =
        let later : suc n ≡ n + 1 = omega arith in
        ap (λ (i : ℕ). advanced p e i (started p e b)) later ∙ sym (advanced_add p e n 1 (started p e b))

    stores_more : (n : ℕ) → stores_in p e (suc n) (started p e b) ≡ stores_in p e n (started p e b) + one_if (is_store_due (advanced p e n (started p e b)))
    unfolding stores_in
    stores_more n =
        let later : suc n ≡ n + 1 = omega arith in
        ap (λ (i : ℕ). stores_in p e i (started p e b)) later ∙ sym (stores_add p e n 1 (started p e b))
        ∙ ap (λ (i : ℕ). stores_in p e n (started p e b) + i) (add-zero (one_if (is_store_due (advanced p e n (started p e b)))))

    after : (n : ℕ) → After n (advanced p e n (started p e b)) (by_schedule p e n b)
    unfolding advanced by_schedule
    after zero = start_after
    after (suc n) =
        let h = after n in
        after_is (suc n) _ (ticked p e (advanced p e n (started p e b))) _ (scheduled_tick p e (suc n) (advanced p e n (started p e b)).board)
        (one_more n)
        (ap (scheduled_tick p e (suc n)) (sym h.board))
        (tick_after n (advanced p e n (started p e b)) h.place)

    stores_are : (n : ℕ) → stores_in p e n (started p e b) ≡ stores_by_schedule p n
    unfolding stores_in stores_by_schedule
    stores_are zero = refl
    stores_are (suc n) =
        stores_more n ∙ ap₂ ◌+◌ (stores_are n) (store_after n (advanced p e n (started p e b)) (after n).place)

    pub in_time : (n : ℕ) → InTime p e n b
    in_time n = record { board = (after n).board; stores = stores_are n }
