-- A text made from the bytes that were read is that made from the input's first bytes, where those are known.
use Rattle.std.proofs.Common.{ℕ, ◌≡◌, List, Option, None, Some, Result, IfSome, OnOk, take, ap, subst, ◌∙◌}
use Rattle.std.specs.Io.KnownBytes.{Appends}

pub appends_of_known :
    {E : Type 0} (result : Result (Unit {0}) E) (known before after : Option (List ℕ)) (count : ℕ) (read written : List ℕ) (text_of : List ℕ → List ℕ)
    → IfSome known (λ bytes. read ≡ take count bytes) → written ≡ text_of read → OnOk result (Appends before after written)
    → IfSome known (λ bytes. OnOk result (Appends before after (text_of (take count bytes))))
appends_of_known result None before after count read written text_of is e p = tt
appends_of_known result (Some bytes) before after count read written text_of is e p =
    subst (λ text. OnOk result (Appends before after text)) (e ∙ ap text_of is) p
