-- A flag's byte says the flag, and is 0 or 1.
use mathlib.Core.Bool.{Bool, true, false}
use mathlib.Core.Path.{◌≡◌, refl, ap, ◌∙◌}
use Prim.Native.Nat.{ℕ, ◌≤◌}
use native.Mathlib.Omega.{arith}
use Rattle.std.specs.Int.{from_bool}
use Rattle.pmc330.specs.Raw.{is_set}
use Rattle.pmc330.proofs.raw.RawBoardFromBoard.from.Goals as goal

flag_back : (flag : Bool) → is_set (from_bool flag) ≡ flag
flag_back true = refl
flag_back false = refl

flag : {byte : ℕ} (flag : Bool) → byte ≡ from_bool flag → is_set byte ≡ flag
flag t e = ap is_set e ∙ flag_back t

small : {byte : ℕ} (flag : Bool) → byte ≡ from_bool flag → byte ≤ 1
small true e = omega (arith, e)
small false e = omega (arith, e)

pub returns : goal.returns
returns c =
    let b = c.args.b in
    let r = b.registers in
    let t = b.cycle.timer in (
      λ i.
          record {
            range = b.range;
            inputs = b.inputs;
            gains = b.gains;
            codes = b.codes;
            unread = b.unread;
            pending = flag b.pending c.from-2.ensures i;
            registers = record {
              enable = flag r.enable c.from.ensures i;
              control = r.control;
              prescaler = r.prescaler;
              timer = r.timer;
              start = r.start;
              end = r.end;
            };
            taken = b.taken;
            cycle = record {
              timer = record {
                running = flag t.running c.from-3.ensures i;
                lead = t.lead;
                lag = t.lag;
                ends = flag t.ends c.from-5.ensures i;
                index = t.index;
              };
              waiting = flag b.cycle.waiting c.from-4.ensures i;
              slot = b.cycle.slot;
              odd = flag b.cycle.odd c.from-6.ensures i;
            };
          },
      record {
        enable = small r.enable c.from.ensures;
        pending = small b.pending c.from-2.ensures;
        running = small t.running c.from-3.ensures;
        waiting = small b.cycle.waiting c.from-4.ensures;
        ends = small t.ends c.from-5.ensures;
        odd = small b.cycle.odd c.from-6.ensures;
        spare = refl;
      },
    )
