-- The draws of the table that a log leads to are those of the log.
use Rattle.std.proofs.Common.{◌≡◌, ℕ, zero, suc, ◌+◌, ◌-◌, ◌*◌, ◌<◌, ◌≤◌, Bool, true, false, cond, ◌||◌, eqb, List, [], ◌∷◌, ◌++◌, length, get_or, set, replicate, sym, refl, ap, ◌∙◌, subst, ap₂, inl, inr, arith, length-set}
use Rattle.std.proofs.lemmas.Bool.{eqb-true, eqb-false, cases_Bool, cond-true, cond-false, cases_lt, true≢false}
use Rattle.std.proofs.lemmas.Bool.Decides.{nat_tests}
use Rattle.std.proofs.lemmas.List.{get_or_past}
use Rattle.std.specs.List.{list_any}
use Rattle.cipher.specs.Cipher.{CipherMeaning}
use Rattle.table.specs.State.{Move, lock, draw, share, abandon, close, show, disclose, draw_at, last_draw, no_draw, begun, shared_by, abandoned, revealed, is_running, is_dealt}
use Rattle.table.specs.Rules.{within_limits}
use Rattle.table.specs.View.{taken}
use Rattle.table.specs.declared.record.DrawRecord.{DrawRecord}
use Rattle.table.specs.declared.record.End.TheVariants.{Running, Dealt}
use Rattle.table.specs.declared.record.Phase.TheVariants.{Dealing}
use Rattle.verdict.specs.Log.{Log, draws, locks, latest, up_to, drawn, Drawn, with_share, given_up, begun_by, none_drawn, draws_place, shows_draw, phase_in}
use Rattle.verdict.specs.Honesty.{chain, last_deck}
use Rattle.verdict.specs.Tables.{part}
use Rattle.verdict.proofs.Parts.{part_at}
use Rattle.session.specs.Runs.{among}
use Rattle.session.proofs.Accepted.{Accepted, limits_of}
use Rattle.session.proofs.Parts.{up_to_last, up_to_other, up_to_none}
use Rattle.session.proofs.Phases.{dealing_locked}
use Rattle.session.proofs.Dealt.{dealt_below}
use Rattle.session.proofs.Lists.{part_last, get_or_set, get_or_added, told_changed, told_added, some_changed, some_added}
use Rattle.session.proofs.Replay.{replay, draws_kept, seats_kept, cards_kept, decks_long}

-- what does not look at moves of this kind is the same in both
module _ {A : Type 0} (f : Log → A) (d : ℕ) (x : Move) (log : Log) where
  pub up_to_skips : draws (x ∷ log) ≡ draws log → f (x ∷ log) ≡ f log → f (up_to d (x ∷ log)) ≡ f (up_to d log)
  up_to_skips same skips =
      elim (cases_Bool (eqb (draws (x ∷ log)) (d + 1))) [
        | inl is ↦ ap f (cond-true _ _ _ is) ∙ skips ∙ sym (ap f (up_to_last d log (omega (arith, same, eqb-true (draws (x ∷ log)) (d + 1) is))))
        | inr other ↦ ap f (cond-false _ _ _ other)
      ]

-- the record of a draw tells what the log tells
pub record Records (d : Drawn) (value : ℕ) (r : DrawRecord) : Type 0 where
  pub seat : r.seat ≡ d.drawer
  pub long : length r.shared ≡ 8
  pub shared : (s : ℕ) → get_or r.shared s false ≡ among s d.sharers
  pub shares : r.shares ≡ length d.sharers
  pub chained : r.value ≡ value
  pub end : r.end ≡ d.end

unshared : (n s : ℕ) → get_or (replicate n false) s false ≡ false
unshared zero s = refl
unshared (suc n) zero = refl
unshared (suc n) (suc s) = unshared n s

records_none : Records none_drawn 0 no_draw
records_none = record { seat = refl; long = refl; shared = unshared 8; shares = refl; chained = refl; end = refl }

records_begun : (s p value v : ℕ) → value ≡ v → Records (begun_by s p) v (begun s p value)
records_begun s p value v is = record { seat = refl; long = refl; shared = unshared 8; shares = refl; chained = is; end = refl }

or_cond : (a b c : Bool) → a ≡ b → cond a true c ≡ (b || c)
or_cond true b c is = ap (λ (x : Bool). x || c) is
or_cond false b c is = ap (λ (x : Bool). x || c) is

cond_shown : (b : Bool) (x y : DrawRecord) → x.shown ≡ true → (cond b x y).shown ≡ cond b true y.shown
cond_shown true x y is = is
cond_shown false x y is = refl

eqb_swap : (a b : ℕ) → eqb a b ≡ eqb b a
eqb_swap a b = grind (arith, nat_tests)

module _ (d : Drawn) (v : ℕ) (r : DrawRecord) (h : Records d v r) where
  records_share : (S seats s w : ℕ) → seats ≡ S → s < 8 → Records (with_share S s d) w (shared_by seats s w r)
  records_share S seats s w is below = record {
    seat = h.seat;
    long = length-set r.shared s true ∙ h.long;
    shared = λ k.
        get_or_set false r.shared s true k (omega (arith, h.long))
        ∙ or_cond (eqb k s) (eqb s k) (get_or r.shared k false) (eqb_swap k s)
        ∙ ap (λ (b : Bool). eqb s k || b) (h.shared k);
    shares = omega (arith, h.shares);
    chained = refl;
    end = ap₂ (λ (n : ℕ) (m : ℕ). cond (eqb (n + 2) m) Dealt Running) h.shares is;
  }

  records_abandoned : Records (given_up d) v (abandoned r)
  records_abandoned = record { seat = h.seat; long = h.long; shared = h.shared; shares = h.shares; chained = h.chained; end = refl }

  records_revealed : Records d v (revealed r)
  records_revealed = record { seat = h.seat; long = h.long; shared = h.shared; shares = h.shares; chained = h.chained; end = h.end }

module _ (m : CipherMeaning) (S D : ℕ) (first : List ℕ) where
  -- the last of the decks is the one entered last
  last_kept : (log : Log) (n : ℕ) → Accepted m S D log → locks log ≡ suc n → part D n (replay S D log).decks ≡ last_deck first log
  last_kept [] n all is = absurd (omega arith)
  last_kept (lock s deck ∷ log) n all is =
      part_last D n (replay S D log).decks deck (decks_long m S D log all.1 ∙ ap (λ (k : ℕ). k * D) (omega (arith, is))) all.0.long
  last_kept (draw s p ∷ log) n all is = last_kept log n all.1 is
  last_kept (share s v ∷ log) n all is = last_kept log n all.1 is
  last_kept (abandon ∷ log) n all is = last_kept log n all.1 is
  last_kept (close ∷ log) n all is = last_kept log n all.1 is
  last_kept (show d c ∷ log) n all is = last_kept log n all.1 is
  last_kept (disclose s k o ∷ log) n all is = last_kept log n all.1 is

  -- the value that a draw begins with
  begins_with : (log : Log) (p : ℕ) → Accepted m S D log → phase_in S log ≡ Dealing → 1 ≤ S → p < D
      → get_or (replay S D log).decks (((replay S D log).seats - 1) * (replay S D log).cards + p) 0 ≡ get_or (last_deck first log) p 0
  begins_with log p all dealing some_seat below =
      let locked = dealing_locked m S D log all dealing in
      ap₂ (λ (s : ℕ) (d : ℕ). get_or (replay S D log).decks ((s - 1) * d + p) 0) (seats_kept S D log) (cards_kept S D log)
      ∙ sym (part_at D (S - 1) p (replay S D log).decks 0 below)
      ∙ ap (λ (xs : List ℕ). get_or xs p 0) (last_kept log (S - 1) all (omega (arith, locked)))

  module _ (limits : within_limits S D ≡ true) where
    abbrev Kept : Log → ℕ → Type 0
    Kept log d = Records (drawn S d log) (chain first (up_to d log)) (draw_at (replay S D log) d)

    -- a move that no draw looks at
    skipped : (x : Move) (log : Log) (d : ℕ) (r : DrawRecord) → draws (x ∷ log) ≡ draws log → latest S (x ∷ log) ≡ latest S log → chain first (x ∷ log) ≡ chain first log
        → Records (drawn S d log) (chain first (up_to d log)) r → Records (drawn S d (x ∷ log)) (chain first (up_to d (x ∷ log))) r
    skipped x log d r same drawn_same Chain_same h =
        subst (λ (e : Drawn). Records e (chain first (up_to d (x ∷ log))) r) (sym (up_to_skips (latest S) d x log same drawn_same))
        (subst (λ (v : ℕ). Records (drawn S d log) v r) (sym (up_to_skips (chain first) d x log same Chain_same)) h)

    -- a move that changes the last draw, and no other
    changed : (x : Move) (log : Log) (r : DrawRecord) → draws (x ∷ log) ≡ draws log → 1 ≤ draws log → ((d : ℕ) → Kept log d)
        → Records (latest S (x ∷ log)) (chain first (x ∷ log)) r → (d : ℕ)
        → Records (drawn S d (x ∷ log)) (chain first (up_to d (x ∷ log))) (get_or (set (replay S D log).draws (last_draw (replay S D log)) r) d no_draw)
    changed x log r same one kept h d =
        let t = replay S D log in
        let count = draws_kept S D log in
        subst (Records (drawn S d (x ∷ log)) (chain first (up_to d (x ∷ log)))) (sym (get_or_set no_draw t.draws (last_draw t) r d (omega (arith, count))))
        (elim (cases_Bool (eqb d (last_draw t))) [
          | inl is ↦
              let whole = up_to_last d (x ∷ log) (omega (arith, same, count, eqb-true d (last_draw t) is)) in
              subst (Records (drawn S d (x ∷ log)) (chain first (up_to d (x ∷ log)))) (sym (cond-true _ _ _ is))
              (subst (λ (l : Log). Records (latest S l) (chain first l) r) (sym whole) h)
          | inr other ↦
              let later = up_to_other d x log (λ is. eqb-false d (last_draw t) other (omega (arith, is, same, count))) in
              subst (Records (drawn S d (x ∷ log)) (chain first (up_to d (x ∷ log)))) (sym (cond-false _ _ _ other))
              (subst (λ (l : Log). Records (latest S l) (chain first l) (draw_at t d)) (sym later) (kept d))
        ])

    -- a new draw leaves the others
    added : (s p : ℕ) (log : Log) (r : DrawRecord) → ((d : ℕ) → Kept log d) → Records (begun_by s p) (get_or (last_deck first log) p 0) r → (d : ℕ)
        → Records (drawn S d (draw s p ∷ log)) (chain first (up_to d (draw s p ∷ log))) (get_or ((replay S D log).draws ++ (r ∷ [])) d no_draw)
    added s p log r kept h d =
        let t = replay S D log in
        let x = draw s p in
        let count = draws_kept S D log in
        subst (Records (drawn S d (x ∷ log)) (chain first (up_to d (x ∷ log)))) (sym (get_or_added no_draw t.draws r d))
        (elim (cases_Bool (eqb d (length t.draws))) [
          | inl is ↦
              let whole = up_to_last d (x ∷ log) (omega (arith, count, eqb-true d (length t.draws) is)) in
              subst (Records (drawn S d (x ∷ log)) (chain first (up_to d (x ∷ log)))) (sym (cond-true _ _ _ is))
              (subst (λ (l : Log). Records (latest S l) (chain first l) r) (sym whole) h)
          | inr other ↦
              let later = up_to_other d x log (λ is. eqb-false d (length t.draws) other (omega (arith, is, count))) in
              subst (Records (drawn S d (x ∷ log)) (chain first (up_to d (x ∷ log)))) (sym (cond-false _ _ _ other))
              (subst (λ (l : Log). Records (latest S l) (chain first l) (draw_at t d)) (sym later) (kept d))
        ])

    -- a draw that is shown stays the same otherwise
    shown_once : (e : ℕ) (log : Log) → e < length (replay S D log).draws → ((d : ℕ) → Kept log d) → (d : ℕ)
        → Records (drawn S d log) (chain first (up_to d log)) (get_or (set (replay S D log).draws e (revealed (draw_at (replay S D log) e))) d no_draw)
    shown_once e log below kept d =
        let t = replay S D log in
        let of = Records (drawn S d log) (chain first (up_to d log)) in
        subst of (sym (get_or_set no_draw t.draws e (revealed (draw_at t e)) d below))
        (elim (cases_Bool (eqb d e)) [
          | inl is ↦
              subst of (sym (cond-true _ _ _ is))
              (subst (λ (k : ℕ). of (revealed (draw_at t k))) (eqb-true d e is) (records_revealed (drawn S d log) (chain first (up_to d log)) (draw_at t d) (kept d)))
          | inr other ↦ subst of (sym (cond-false _ _ _ other)) (kept d)
        ])

    -- the last draw before such a move
    last_of : (log : Log) → 1 ≤ draws log → ((d : ℕ) → Kept log d) → Records (latest S log) (chain first log) (draw_at (replay S D log) (last_draw (replay S D log)))
    last_of log one kept =
        let t = replay S D log in
        subst (λ (l : Log). Records (latest S l) (chain first l) (draw_at t (last_draw t))) (up_to_last (last_draw t) log (omega (arith, draws_kept S D log))) (kept (last_draw t))

    -- a draw is running only if there is one
    running_known : (log : Log) → is_running (drawn S (draws log - 1) log).end ≡ true → 1 ≤ draws log
    running_known log runs =
        elim (cases_lt 0 (draws log)) [
          | inl h ↦ h
          | inr h ↦ absurd (true≢false (sym runs ∙ ap (λ (part : Log). is_running (latest S part).end) (up_to_none (draws log - 1) log (omega arith))))
        ]

    last_within : (log : Log) → is_running (drawn S (draws log - 1) log).end ≡ true → last_draw (replay S D log) < length (replay S D log).draws
    last_within log runs = omega (arith, running_known log runs, draws_kept S D log)

    dealt_within : (log : Log) (e : ℕ) → is_dealt (drawn S e log).end ≡ true → e < length (replay S D log).draws
    dealt_within log e dealt = omega (arith, draws_kept S D log, dealt_below S e log dealt)

    pub drawn_kept : (log : Log) → Accepted m S D log → (d : ℕ) → Kept log d
    drawn_kept [] all d = subst (Records none_drawn 0) (sym (get_or_past [] d no_draw (omega arith))) records_none
    drawn_kept (lock s deck ∷ log) all d = skipped (lock s deck) log d _ refl refl refl (drawn_kept log all.1 d)
    drawn_kept (draw s p ∷ log) all d =
        let begins = begins_with log p all.1 all.0.phase (omega (arith, (limits_of S D limits).seats_least)) all.0.place in
        added s p log _ (drawn_kept log all.1) (records_begun s p _ (get_or (last_deck first log) p 0) begins) d
    drawn_kept (share s v ∷ log) all d =
        let kept = drawn_kept log all.1 in
        let one = running_known log all.0.running in
        changed (share s v) log _ refl one kept
        (records_share (latest S log) (chain first log) _ (last_of log one kept) S _ s v (seats_kept S D log) (omega (arith, all.0.seat, (limits_of S D limits).seats_most))) d
    drawn_kept (abandon ∷ log) all d =
        let kept = drawn_kept log all.1 in
        let one = running_known log all.0.running in
        changed abandon log _ refl one kept (records_abandoned (latest S log) (chain first log) _ (last_of log one kept)) d
    drawn_kept (close ∷ log) all d = skipped close log d _ refl refl refl (drawn_kept log all.1 d)
    drawn_kept (show e c ∷ log) all d =
        skipped (show e c) log d _ refl refl refl (shown_once e log (dealt_within log e all.0.dealt) (drawn_kept log all.1) d)
    drawn_kept (disclose s k o ∷ log) all d = skipped (disclose s k o) log d _ refl refl refl (drawn_kept log all.1 d)

    pub shown_kept : (log : Log) → Accepted m S D log → (d : ℕ) → (draw_at (replay S D log) d).shown ≡ list_any (shows_draw d) log
    shown_kept [] all d = ap (λ (r : DrawRecord). r.shown) (get_or_past [] d no_draw (omega arith))
    shown_kept (lock s deck ∷ log) all d = shown_kept log all.1 d
    shown_kept (draw s p ∷ log) all d = told_added no_draw (λ (r : DrawRecord). r.shown) (replay S D log).draws _ d refl ∙ shown_kept log all.1 d
    shown_kept (share s v ∷ log) all d =
        told_changed no_draw (λ (r : DrawRecord). r.shown) (replay S D log).draws _ _ d (last_within log all.0.running) refl ∙ shown_kept log all.1 d
    shown_kept (abandon ∷ log) all d =
        told_changed no_draw (λ (r : DrawRecord). r.shown) (replay S D log).draws _ _ d (last_within log all.0.running) refl ∙ shown_kept log all.1 d
    shown_kept (close ∷ log) all d = shown_kept log all.1 d
    shown_kept (show e c ∷ log) all d =
        ap (λ (r : DrawRecord). r.shown) (get_or_set no_draw (replay S D log).draws e _ d (dealt_within log e all.0.dealt))
        ∙ cond_shown (eqb d e) (revealed (draw_at (replay S D log) e)) (draw_at (replay S D log) d) refl
        ∙ or_cond (eqb d e) (eqb e d) _ (eqb_swap d e)
        ∙ ap (λ (b : Bool). eqb e d || b) (shown_kept log all.1 d)
    shown_kept (disclose s k o ∷ log) all d = shown_kept log all.1 d

    pub taken_kept : (log : Log) → Accepted m S D log → (p : ℕ) → taken (replay S D log).draws p ≡ list_any (draws_place p) log
    taken_kept [] all q = refl
    taken_kept (lock s deck ∷ log) all q = taken_kept log all.1 q
    taken_kept (draw s p ∷ log) all q = some_added (λ (r : DrawRecord). eqb r.place q) (replay S D log).draws _ ∙ ap (λ (b : Bool). eqb p q || b) (taken_kept log all.1 q)
    taken_kept (share s v ∷ log) all q =
        some_changed no_draw (λ (r : DrawRecord). eqb r.place q) (replay S D log).draws _ _ (last_within log all.0.running) refl ∙ taken_kept log all.1 q
    taken_kept (abandon ∷ log) all q =
        some_changed no_draw (λ (r : DrawRecord). eqb r.place q) (replay S D log).draws _ _ (last_within log all.0.running) refl ∙ taken_kept log all.1 q
    taken_kept (close ∷ log) all q = taken_kept log all.1 q
    taken_kept (show e c ∷ log) all q =
        some_changed no_draw (λ (r : DrawRecord). eqb r.place q) (replay S D log).draws _ _ (dealt_within log e all.0.dealt) refl ∙ taken_kept log all.1 q
    taken_kept (disclose s k o ∷ log) all q = taken_kept log all.1 q
