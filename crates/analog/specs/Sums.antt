-- The sum of a list of numbers: of advances, of the codes in a window.
use Rattle.std.specs.Prelude.{ℕ, ◌+◌, List, [], ◌∷◌}

unfoldable pub sum_of : List ℕ → ℕ
sum_of [] = 0
sum_of (n ∷ ns) = n + sum_of ns
