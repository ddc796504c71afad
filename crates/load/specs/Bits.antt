-- The step of a load: exclusive or with x shifted left 13, then right 17, then left 5, all in 32 bits (data sheet, "Loads").
use Rattle.std.specs.Prelude.{ℕ, zero, suc, ◌+◌, ◌*◌, ◌/◌, ◌%◌, ◌^◌}

-- shifted left by so many places: what goes past 32 bits is lost
abbrev pub shifted_left : (places x : ℕ) → ℕ
shifted_left places x = x * 2 ^ places % 2 ^ 32

-- shifted right: what goes below the lowest bit is lost
abbrev pub shifted_right : (places x : ℕ) → ℕ
shifted_right places x = x / 2 ^ places

-- exclusive or, in so many bits: from the lowest on, a bit is 1 where one of the two is 1 and the other 0
unfoldable pub xor_in : (bits x y : ℕ) → ℕ
xor_in zero x y = 0
xor_in (suc bits) x y = (x + y) % 2 + 2 * xor_in bits (x / 2) (y / 2)

unfoldable pub xor_of : (x y : ℕ) → ℕ
xor_of x y = xor_in 32 x y

-- exclusive or of x and x shifted
abbrev pub xor_left : (places x : ℕ) → ℕ
xor_left places x = xor_of x (shifted_left places x)

abbrev pub xor_right : (places x : ℕ) → ℕ
xor_right places x = xor_of x (shifted_right places x)

-- one step
unfoldable pub stepped : (x : ℕ) → ℕ
stepped x = xor_left 5 (xor_right 17 (xor_left 13 x))
