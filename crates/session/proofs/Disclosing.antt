-- The disclosures of the table that a log leads to are those of the log.
use Rattle.std.proofs.Common.{◌≡◌, ℕ, suc, ◌*◌, ◌<◌, Bool, true, false, not, ◌||◌, eqb, List, [], ◌∷◌, ◌++◌, length, get_or, sym, refl, ap, ◌∙◌, subst, ap₂, inl, inr, mul-le-mul_right, suc-mul, arith, length-append}
use lib.ListN.{get_or-append}
use Rattle.std.proofs.lemmas.Bool.{eqb-true, eq-eqb, ne_eqb, cases_Bool, cond-true, cond-false, or_parts, not_from_true, not_from_false, true≢false}
use Rattle.std.proofs.lemmas.List.{get_or_past, get_or_push, length_push}
use Rattle.std.specs.List.{prefix_len, list_any}
use Rattle.std.proofs.lemmas.List.Folds.{position_or_len_push}
use Rattle.cipher.specs.Cipher.{CipherMeaning}
use Rattle.table.specs.State.{lock, draw, share, abandon, close, show, disclose}
use Rattle.table.specs.View.{has_disclosed}
use Rattle.table.specs.declared.record.Disclosure.{Disclosure}
use Rattle.verdict.specs.Log.{Log, discloses_seat, secret, Secret}
use Rattle.verdict.specs.Tables.{part, no_disclosure}
use Rattle.session.proofs.Accepted.{Accepted}
use Rattle.session.proofs.Lists.{part_last, part_stays, part_past, some_added}
use Rattle.session.proofs.Replay.{replay}

-- a search for the first that passes a test, in a list that has one more
module _ {A : Type 0} (test : A → Bool) where
  abbrev place : List A → ℕ
  place xs = prefix_len (λ x. not (test x)) xs

  place_none : (xs : List A) → list_any test xs ≡ false → place xs ≡ length xs
  place_none [] none = refl
  place_none (x ∷ xs) none =
      let parts = or_parts (test x) (list_any test xs) none in
      cond-true _ _ _ (not_from_false (test x) parts.0) ∙ omega (arith, place_none xs parts.1)

  place_below : (xs : List A) → list_any test xs ≡ true → place xs < length xs
  place_below [] found = absurd (true≢false (sym found))
  place_below (x ∷ xs) found =
      elim (cases_Bool (test x)) [
        | inl is ↦ subst (λ (n : ℕ). n < suc (length xs)) (sym (cond-false _ _ _ (not_from_true (test x) is))) (omega arith)
        | inr other ↦
            subst (λ (n : ℕ). n < suc (length xs)) (sym (cond-true _ _ _ (not_from_false (test x) other)))
            (omega (arith, place_below xs (sym (ap (λ (b : Bool). b || list_any test xs) other) ∙ found)))
      ]

  -- one that was found stays where it is
  place_stays : (xs : List A) (y : A) → list_any test xs ≡ true → place (xs ++ (y ∷ [])) ≡ place xs
  place_stays xs y found =
      position_or_len_push test xs y ∙ cond-false _ _ _ (ne_eqb (place xs) (length xs) (λ e. omega (arith, e, place_below xs found)))

  place_new : (xs : List A) (y : A) → list_any test xs ≡ false → test y ≡ true → place (xs ++ (y ∷ [])) ≡ length xs
  place_new xs y none is =
      position_or_len_push test xs y
      ∙ cond-true _ _ _ (eq-eqb (place xs) (length xs) (place_none xs none))
      ∙ omega (arith, cond-true {A = ℕ} (test y) 0 1 is)

  place_still_none : (xs : List A) (y : A) → list_any test xs ≡ false → test y ≡ false → place (xs ++ (y ∷ [])) ≡ suc (length xs)
  place_still_none xs y none other =
      place_none (xs ++ (y ∷ [])) (some_added test xs y ∙ ap₂ (λ (a : Bool) (b : Bool). a || b) other none) ∙ omega (arith, length_push xs y)

-- the key and the order at the place where a seat's disclosure is looked for
abbrev pub found_secret : ℕ → List Disclosure → List ℕ → ℕ → Secret
found_secret long ds orders s =
    let n = prefix_len (λ d. not (eqb d.seat s)) ds in
    record { key = (get_or ds n no_disclosure).key; order = part long n orders }

module _ (long : ℕ) (ds : List Disclosure) (orders : List ℕ) (whole : length orders ≡ length ds * long) (d : Disclosure) (o : List ℕ) (is_long : length o ≡ long) (s : ℕ) where
  abbrev of_seat : Disclosure → Bool
  of_seat e = eqb e.seat s

  -- a seat that has not disclosed yet
  found_new : list_any of_seat ds ≡ false → of_seat d ≡ true → found_secret long (ds ++ (d ∷ [])) (orders ++ o) s ≡ record { key = d.key; order = o }
  found_new none is =
      ap (λ (n : ℕ). record { key = (get_or (ds ++ (d ∷ [])) n no_disclosure).key; order = part long n (orders ++ o) }) (place_new of_seat ds d none is)
      ∙ ap₂ (λ (e : Disclosure) (p : List ℕ). record { key = e.key; order = p }) (get_or_push ds d no_disclosure (length ds) refl) (part_last long (length ds) orders o whole is_long)

  -- the disclosure of another
  found_other : of_seat d ≡ false → found_secret long (ds ++ (d ∷ [])) (orders ++ o) s ≡ found_secret long ds orders s
  found_other other =
      elim (cases_Bool (list_any of_seat ds)) [
        | inl found ↦
            let n = place of_seat ds in
            let below = place_below of_seat ds found in
            ap (λ (k : ℕ). record { key = (get_or (ds ++ (d ∷ [])) k no_disclosure).key; order = part long k (orders ++ o) }) (place_stays of_seat ds d found)
            ∙ ap₂ (λ (e : Disclosure) (p : List ℕ). record { key = e.key; order = p }) (get_or-append ds (d ∷ []) no_disclosure n below)
            (part_stays long n orders o (omega (arith, whole, suc-mul n long, mul-le-mul_right long below)))
        | inr none ↦
            let n = length ds in
            ap (λ (k : ℕ). record { key = (get_or (ds ++ (d ∷ [])) k no_disclosure).key; order = part long k (orders ++ o) }) (place_still_none of_seat ds d none other)
            ∙ ap₂ (λ (e : Disclosure) (p : List ℕ). record { key = e.key; order = p })
            (get_or_past (ds ++ (d ∷ [])) (suc n) no_disclosure (omega (arith, length_push ds d)) ∙ sym (get_or_past ds n no_disclosure (omega arith)))
            (part_past long (suc n) (orders ++ o) (omega (arith, length-append orders o, whole, is_long, suc-mul n long)) ∙ sym (part_past long n orders (omega (arith, whole))))
            ∙ ap (λ (k : ℕ). record { key = (get_or ds k no_disclosure).key; order = part long k orders }) (sym (place_none of_seat ds none))
      ]

module _ (m : CipherMeaning) (S D : ℕ) where
  pub disclosed_kept : (log : Log) (s : ℕ) → has_disclosed (replay S D log).disclosures s ≡ list_any (discloses_seat s) log
  disclosed_kept [] r = refl
  disclosed_kept (lock s deck ∷ log) r = disclosed_kept log r
  disclosed_kept (draw s p ∷ log) r = disclosed_kept log r
  disclosed_kept (share s v ∷ log) r = disclosed_kept log r
  disclosed_kept (abandon ∷ log) r = disclosed_kept log r
  disclosed_kept (close ∷ log) r = disclosed_kept log r
  disclosed_kept (show d c ∷ log) r = disclosed_kept log r
  disclosed_kept (disclose s k o ∷ log) r =
      some_added (λ (d : Disclosure). eqb d.seat r) (replay S D log).disclosures _ ∙ ap (λ (b : Bool). eqb s r || b) (disclosed_kept log r)

  pub orders_long : (log : Log) → Accepted m S D log → length (replay S D log).orders ≡ length (replay S D log).disclosures * D
  orders_long [] all = omega arith
  orders_long (lock s deck ∷ log) all = orders_long log all.1
  orders_long (draw s p ∷ log) all = orders_long log all.1
  orders_long (share s v ∷ log) all = orders_long log all.1
  orders_long (abandon ∷ log) all = orders_long log all.1
  orders_long (close ∷ log) all = orders_long log all.1
  orders_long (show d c ∷ log) all = orders_long log all.1
  orders_long (disclose s k o ∷ log) all =
      let ds = (replay S D log).disclosures in
      length-append (replay S D log).orders o
      ∙ omega (arith, orders_long log all.1, all.0.long, suc-mul (length ds) D)
      ∙ ap (λ (n : ℕ). n * D) (sym (length_push ds _))

  pub secret_kept : (log : Log) → Accepted m S D log → (r : ℕ) → found_secret D (replay S D log).disclosures (replay S D log).orders r ≡ secret r log
  secret_kept [] all r = ap (λ (p : List ℕ). record { key = 0; order = p }) (part_past D 0 [] (omega arith))
  secret_kept (lock s deck ∷ log) all r = secret_kept log all.1 r
  secret_kept (draw s p ∷ log) all r = secret_kept log all.1 r
  secret_kept (share s v ∷ log) all r = secret_kept log all.1 r
  secret_kept (abandon ∷ log) all r = secret_kept log all.1 r
  secret_kept (close ∷ log) all r = secret_kept log all.1 r
  secret_kept (show d c ∷ log) all r = secret_kept log all.1 r
  secret_kept (disclose s k o ∷ log) all r =
      let t = replay S D log in
      let long = orders_long log all.1 in
      elim (cases_Bool (eqb s r)) [
        | inl is ↦
            let none = ap (has_disclosed t.disclosures) (sym (eqb-true s r is)) ∙ disclosed_kept log s ∙ all.0.first in
            found_new D t.disclosures t.orders long (record { seat = s; key = k }) o all.0.long r none is ∙ sym (cond-true _ _ _ is)
        | inr other ↦
            found_other D t.disclosures t.orders long (record { seat = s; key = k }) o all.0.long r other ∙ secret_kept log all.1 r ∙ sym (cond-false _ _ _ other)
      ]
