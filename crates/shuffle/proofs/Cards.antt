-- Why the cards that both seats open are those that the two orders, composed, tell.
use Rattle.std.proofs.Common.{◌≡◌, ℕ, ◌<◌, ◌≤◌, Bool, true, false, cond, eqb, List, [], ◌∷◌, map, length, get_or, IsOkAnd, Some, None, Ok, Err, Option, Result, sym, refl, ap, ◌∙◌, subst, ap₂, arith}
use Rattle.std.proofs.lemmas.List.FromFn.{length-map-range_with_len, get_or-map-range_with_len}
use Rattle.std.proofs.lemmas.List.{length-map, get_or-map}
use Rattle.std.proofs.lemmas.Bool.{cond-true, eqb-true}
use Rattle.std.proofs.lemmas.Result.{MatchResult-at_ok}
use Rattle.cipher.specs.Cipher.{CipherMeaning, CipherLaws, Value, Lawful}
use Rattle.cipher.specs.Answers.{Reads}
use Rattle.cipher.specs.Decks.{deck_answer, locked_deck}
use Rattle.cipher.specs.declared.fault.CipherFault.{CipherFault}
use Rattle.cipher.specs.declared.fault.CipherFault.TheVariants.{UnlawfulKey}
use Rattle.cipher.proofs.Decks.{all_values}
use Rattle.permutation.specs.Permutation.{upto, composed_at}
use Rattle.permutation.proofs.Permutations.{permutes_decides, permutation_within}
use Rattle.seat.specs.Seat.{SeatMeaning, SeatLaws}
use Rattle.seat.specs.Answers.{raised, lengths_then_key, unlock_answer}
use Rattle.seat.specs.declared.fault.SeatFault.{SeatFault}
use Rattle.seat.specs.declared.fault.SeatFault.TheVariants.{WrongLength, Cipher}
use Rattle.shuffle.specs.Shuffle.{Ready, Opens, locked_once, locked_twice, opened_answer}

abbrev Answer : Type 0
Answer = Result (Unit {0}) SeatFault

-- a deck of values, and a target of its length: what is left to refuse
abbrev sized_then_key : CipherMeaning → ℕ → ℕ → ℕ → Answer
sized_then_key m key size target = cond (eqb target size) (cond (m.lawful key) (Ok tt) (Err (Cipher (UnlawfulKey key)))) (Err (WrongLength target))

cond_twice : {A : Type 0} (b : Bool) (x y : A) → cond b (cond b x y) y ≡ cond b x y
cond_twice true x y = refl
cond_twice false x y = refl

pub lock_of_values : (m : CipherMeaning) (key size : ℕ) (deck : List ℕ) (target : ℕ) → deck_answer m 0 deck ≡ Ok tt → length deck ≡ target
    → lengths_then_key m key size deck target ≡ sized_then_key m key size target
lock_of_values m key size deck target values same =
    let keyed : Result (Unit {0}) CipherFault → Answer = λ r. cond (m.lawful key) (raised r) (Err (Cipher (UnlawfulKey key))) in
    let sized : ℕ → Result (Unit {0}) CipherFault → Answer = λ n r. cond (eqb n size) (cond (eqb target size) (keyed r) (Err (WrongLength target))) (Err (WrongLength n)) in
    ap (λ (n : ℕ). sized n (deck_answer m 0 deck)) same ∙ ap (sized target) values ∙ cond_twice (eqb target size) (keyed (Ok tt)) (Err (WrongLength target))

-- a refusal before the rest is the whole refusal
refused_before : (a b : Bool) (e x y : SeatFault) (rest : Answer) → ◌≡◌ {A = Answer} (Err e) (cond a (cond b (Ok tt) (Err x)) (Err y)) → ◌≡◌ {A = Answer} (Err e) (cond a (cond b rest (Err x)) (Err y))
refused_before true true e x y rest h = cc
refused_before true false e x y rest h = h
refused_before false b e x y rest h = h

accepted_before : (a b : Bool) (x y : SeatFault) → ◌≡◌ {A = Answer} (Ok tt) (cond a (cond b (Ok tt) (Err x)) (Err y)) → (a ≡ true) × (b ≡ true)
accepted_before true true x y h = (refl, refl)
accepted_before true false x y h = cc
accepted_before false b x y h = cc

-- a seat's order holds places of its deck
order_within : (s : SeatMeaning) → SeatLaws s → (n i : ℕ) → n ≡ s.size → i < n → get_or s.order i 0 < n
order_within s laws n i same h = omega (arith, laws.sized, permutation_within s.order ((permutes_decides s.order).0 laws.ordered) i (omega (arith, laws.sized)))

module _ (m : CipherMeaning) (s t : SeatMeaning) where
  -- the code of the card c under both locks
  pub record Locked (c v : ℕ) : Type 0 where
    pub card : c < 52
    pub first_lawful : Lawful m (s.key m)
    pub second_lawful : Lawful m (t.key m)
    pub is : v ≡ m.lock (t.key m) (m.lock (s.key m) (m.code c))

module _ (m : CipherMeaning) (laws : CipherLaws m) where
  abbrev codes : ℕ → List ℕ
  codes n = map m.code (upto n)

  code_at : (n i : ℕ) → i < n → get_or (codes n) i 0 ≡ m.code i
  code_at n i h = get_or-map-range_with_len m.code 0 n i i 0 h (omega arith)

  pub codes_length : (n : ℕ) → length (codes n) ≡ n
  codes_length n = length-map-range_with_len m.code 0 n

  pub codes_values : (n : ℕ) → n ≤ 52 → deck_answer m 0 (codes n) ≡ Ok tt
  codes_values n few =
      all_values m 0 (codes n) (λ i h.
      let below : i < n = omega (arith, codes_length n) in
      subst (Value m) (sym (code_at n i below)) (laws.coded i (omega arith)))

  reads_card : (c v : ℕ) (r : Option ℕ) → c < 52 → v ≡ m.code c → Reads m v r → r ≡ Some c
  reads_card c v (Some d) few is reads = ap Some (laws.codes_differ d c reads.0 few (reads.1 ∙ is))
  reads_card c v None few is reads = absurd (reads c few (sym is))

  module _ (s t : SeatMeaning) where
    -- the first seat's lock comes off below that of the second
    first_opens : (c v : ℕ) → Locked m s t c v → unlock_answer m s v ≡ Ok (m.lock (t.key m) (m.code c))
    first_opens c v l =
        let coded = laws.coded c l.card in
        let once = laws.locked (s.key m) (m.code c) l.first_lawful coded in
        let value = subst (Value m) (sym l.is) (laws.locked (t.key m) _ l.second_lawful once) in
        cond-true _ _ _ l.first_lawful ∙ cond-true _ _ _ value
        ∙ ap Ok (ap (m.lock (m.undo (s.key m))) l.is
        ∙ laws.commute _ (t.key m) _ (laws.undo_lawful (s.key m) l.first_lawful) l.second_lawful once
        ∙ ap (m.lock (t.key m)) (laws.undone (s.key m) (m.code c) l.first_lawful coded))

    second_opens : (c v : ℕ) → Locked m s t c v → unlock_answer m t (m.lock (t.key m) (m.code c)) ≡ Ok (m.code c)
    second_opens c v l =
        let coded = laws.coded c l.card in
        cond-true _ _ _ l.second_lawful ∙ cond-true _ _ _ (laws.locked (t.key m) (m.code c) l.second_lawful coded)
        ∙ ap Ok (laws.undone (t.key m) (m.code c) l.second_lawful coded)

    pub opens_card : (c v : ℕ) (r : Result (Option ℕ) SeatFault) → Locked m s t c v → Opens m s t v r → r ≡ Ok (Some c)
    opens_card c v r l opens = by r (MatchResult-at_ok _ _ _ (second_opens c v l) (MatchResult-at_ok _ _ _ (first_opens c v l) opens))
      where
        by : (o : Result (Option ℕ) SeatFault) → IsOkAnd o (λ card. Reads m (m.code c) card) → o ≡ Ok (Some c)
        by (Ok card) reads = ap Ok (reads_card c (m.code c) card l.card refl reads)
        by (Err e) reads = absurd reads

    module _ (ls : SeatLaws s) (lt : SeatLaws t) (n : ℕ) where
      pub once_length : n ≡ s.size → length (locked_once m s n) ≡ n
      once_length same = length-map s.order _ ∙ ls.sized ∙ sym same

      once_at : n ≡ s.size → (i : ℕ) → i < n → get_or (locked_once m s n) i 0 ≡ m.lock (s.key m) (m.code (get_or s.order i 0))
      once_at same i h =
          get_or-map (λ k. m.lock (s.key m) (get_or (codes n) k 0)) s.order i 0 0 (omega (arith, ls.sized))
          ∙ ap (m.lock (s.key m)) (code_at n (get_or s.order i 0) (order_within s ls n i same h))

      few : n ≡ s.size → n ≤ 52
      few same = omega (arith, ls.few)

      pub once_values : n ≡ s.size → Lawful m (s.key m) → deck_answer m 0 (locked_once m s n) ≡ Ok tt
      once_values same lawful =
          all_values m 0 (locked_once m s n) (λ i h.
          let below : i < n = omega (arith, once_length same) in
          subst (Value m) (sym (once_at same i below))
          (laws.locked (s.key m) _ lawful (laws.coded _ (omega (arith, few same, order_within s ls n i same below)))))

      pub twice_length : Ready m s t n → length (locked_twice m s t n) ≡ n
      twice_length ready = length-map t.order _ ∙ lt.sized ∙ sym ready.second_sized

      twice_at : Ready m s t n → (i : ℕ) → i < n → Locked m s t (composed_at (s.order ∷ t.order ∷ []) i) (get_or (locked_twice m s t n) i 0)
      twice_at ready i h =
          let j = get_or t.order i 0 in
          let inside = order_within t lt n i ready.second_sized h in
          record {
            card = omega (arith, few ready.first_sized, order_within s ls n j ready.first_sized inside);
            first_lawful = ready.first_lawful;
            second_lawful = ready.second_lawful;
            is = get_or-map (λ k. m.lock (t.key m) (get_or (locked_once m s n) k 0)) t.order i 0 0 (omega (arith, lt.sized, ready.second_sized))
                ∙ ap (m.lock (t.key m)) (once_at ready.first_sized j inside);
          }

      -- whoever opens what is under both locks opens each place of the deck
      pub opened_at : (deck : List ℕ) (i : ℕ) (r : Result (Option ℕ) SeatFault) → Ready m s t n → deck ≡ locked_twice m s t n → i < n → ((c : ℕ) → Locked m s t c (get_or deck i 0) → r ≡ Ok (Some c))
          → r ≡ Ok (Some (composed_at (s.order ∷ t.order ∷ []) i))
      opened_at deck i r ready locked h opens =
          opens _ (subst (λ (d : List ℕ). Locked m s t (composed_at (s.order ∷ t.order ∷ []) i) (get_or d i 0)) (sym locked) (twice_at ready i h))

      -- and so do both seats
      pub opens_at : (deck : List ℕ) (i : ℕ) (r : Result (Option ℕ) SeatFault) → Ready m s t n → deck ≡ locked_twice m s t n → i < n → Opens m s t (get_or deck i 0) r
          → r ≡ Ok (Some (composed_at (s.order ∷ t.order ∷ []) i))
      opens_at deck i r ready locked h opens = opened_at deck i r ready locked h (λ c under. opens_card c (get_or deck i 0) r under opens)

      -- the first seat is handed the codes
      first_answer : n ≤ 52 → lengths_then_key m (s.key m) s.size (codes n) n ≡ sized_then_key m (s.key m) s.size n
      first_answer most = lock_of_values m (s.key m) s.size (codes n) n (codes_values n most) (codes_length n)

      module _ (deck : List ℕ) (target : ℕ) (most : n ≤ 52) (coded : deck ≡ codes n) (same : target ≡ n) where
        first_answers : lengths_then_key m (s.key m) s.size deck target ≡ sized_then_key m (s.key m) s.size n
        first_answers = ap₂ (lengths_then_key m (s.key m) s.size) coded same ∙ first_answer most

        pub first_refuses : (e : SeatFault) → Err e ≡ lengths_then_key m (s.key m) s.size deck target → Err e ≡ opened_answer m s t n
        first_refuses e h = refused_before (eqb n s.size) (m.lawful (s.key m)) e _ _ _ (h ∙ first_answers)

        -- and the second what the first made of them
        pub second_answers : (once : List ℕ) → Ok tt ≡ lengths_then_key m (s.key m) s.size deck target → once ≡ locked_once m s n
            → lengths_then_key m (t.key m) t.size once n ≡ opened_answer m s t n
        second_answers once h locked =
            let a = accepted_before (eqb n s.size) (m.lawful (s.key m)) _ _ (h ∙ first_answers) in
            let sized = eqb-true n s.size a.0 in
            ap (λ (d : List ℕ). lengths_then_key m (t.key m) t.size d n) locked
            ∙ lock_of_values m (t.key m) t.size (locked_once m s n) n (once_values sized a.1) (once_length sized)
            ∙ sym (cond-true _ _ _ a.0 ∙ cond-true _ _ _ a.1)

        -- which it made of that deck
        pub second_after_first : (once : List ℕ) → Ok tt ≡ lengths_then_key m (s.key m) s.size deck target → once ≡ locked_deck m (s.key m) s.order deck
            → lengths_then_key m (t.key m) t.size once n ≡ opened_answer m s t n
        second_after_first once h locked = second_answers once h (locked ∙ ap (locked_deck m (s.key m) s.order) coded)
