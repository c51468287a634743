-- Each call gives x again, so what is written is x throughout.
use Rattle.std.proofs.Common.{rules, ◌≡◌, List, [], ◌∷◌, length, replicate, refl, ap, ◌∙◌, ap₂, subst}
use Rattle.std.specs.List.{FoldsTo}
use Rattle.permutation.proofs.fill.Goals as goal

same_throughout : {F X : Type 0} (step : F → X → F → Type 0) (f last : F) (x : X) (xs : List X) → FoldsTo step f xs last
    → ((y : X) (f' : F) → step f y f' → (f' ≡ f) × (y ≡ x)) → xs ≡ replicate (length xs) x
same_throughout step f last x [] calls same = refl
same_throughout step f last x (y ∷ ys) calls same =
    let e = same y calls.0 calls.1 in
    ap₂ ◌∷◌ e.1 (same_throughout step f last x ys (subst (λ f'. FoldsTo step f' ys last) e.0 calls.2) same)

pub returns : goal.returns
returns g c =
    same_throughout _ _ _ c.args.x _ c.fill_with.ensures.ran.1 (λ y f k. search rules)
    ∙ ap (λ n. replicate n c.args.x) c.fill_with.ensures.len
