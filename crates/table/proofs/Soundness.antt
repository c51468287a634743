-- What a table keeps as moves are made, and that there is room for them.
use Rattle.std.proofs.Common.{◌≡◌, ℕ, ◌+◌, ◌<◌, ◌≤◌, true, false, ltb, List, [], ◌∷◌, ◌++◌, length, get_or, set, vec_items, vec_len, vec_capacity, refl, ap, ◌∙◌, subst, mul-le-mul_right, suc-mul, arith}
use Rattle.std.proofs.lemmas.Bool.{ltb-true, lt-ltb, eqb-true, eq-eqb, false≢true, and_from}
use Rattle.std.proofs.lemmas.List.{get_or_default, length_push}
use Rattle.table.specs.State.{no_draw, draw_at, phase_after}
use Rattle.table.specs.Model.{state_of}
use Rattle.table.specs.Rules.{closable}
use Rattle.table.specs.View.{closes, taken, has_disclosed}
use Rattle.table.specs.Sound.{in_step, fair_end, fair, different, moves_of, draw_moves, most_moves, Continues}
use Rattle.table.specs.declared.table.Table.{Table}
use Rattle.table.specs.declared.record.DrawRecord.{DrawRecord}
use Rattle.table.specs.declared.record.Disclosure.{Disclosure}
use Rattle.table.specs.declared.record.End.TheVariants.{Running}
use Rattle.table.specs.declared.record.Phase.{Phase}
use Rattle.table.specs.declared.record.Phase.TheVariants.{Locking, Dealing, Showdown, Audit}
use Rattle.table.proofs.Draws.{moves_bounded, fair_changed, fair_added, moves_changed, moves_added}
use Rattle.table.proofs.Different.{different_changed, different_added, different_few}

seats_locked : (phase : Phase) (locked seats : ℕ) → in_step phase locked seats ≡ true → locked ≤ seats
seats_locked Locking locked seats h = omega (arith, ltb-true locked seats h)
seats_locked Dealing locked seats h = omega (arith, eqb-true locked seats h)
seats_locked Showdown locked seats h = omega (arith, eqb-true locked seats h)
seats_locked Audit locked seats h = omega (arith, eqb-true locked seats h)

closes_most : (phase : Phase) → closes phase ≤ 2
closes_most Locking = omega arith
closes_most Dealing = omega arith
closes_most Showdown = omega arith
closes_most Audit = omega arith

-- the moves of a hand, whatever was made of it, are as many as there is room for
pub moves_fit : (seats cards locked disclosed : ℕ) (draws : List DrawRecord) (phase : Phase) → 2 ≤ seats → in_step phase locked seats ≡ true → disclosed ≤ seats
    → fair seats draws ≡ true → length draws ≤ cards → locked + (draw_moves draws + (disclosed + closes phase)) ≤ most_moves seats cards
moves_fit seats cards locked disclosed draws phase two step few h fewer =
    omega (arith, seats_locked phase locked seats step, closes_most phase, moves_bounded seats draws two h, mul-le-mul_right (seats + 1) fewer)

-- there are no more than 52 draws
pub draws_count : (t : Table) → vec_len t.held.draws ≤ 52
draws_count t = omega (arith, t.cards_most, t.held.draws.ok.0, different_few (λ (e : DrawRecord). e.place) t.held.cards (vec_items t.held.draws) t.places_different)

pub disclosures_few : (t : Table) → vec_len t.held.disclosures ≤ t.held.seats
disclosures_few t = omega (arith, t.held.disclosures.ok.0, different_few (λ (e : Disclosure). e.seat) t.held.seats (vec_items t.held.disclosures) t.disclosures_different)

pub draws_few : (t : Table) → length (vec_items t.held.draws) ≤ t.held.cards
draws_few t = different_few (λ (e : DrawRecord). e.place) t.held.cards (vec_items t.held.draws) t.places_different

-- a table in which one draw is changed by one move more
module _ (t : Table) (i : ℕ) (d : DrawRecord) (within : i < vec_len t.held.draws) (next : Continues t.held.seats (draw_at (state_of t) i) d) where
  below : i < length (vec_items t.held.draws)
  below = omega (arith, t.held.draws.ok.0)

  pub still_fair : fair t.held.seats (set (vec_items t.held.draws) i d) ≡ true
  still_fair = fair_changed t.held.seats (vec_items t.held.draws) i d t.draws_fair next.fair

  pub still_different : different (λ e. e.place) t.held.cards (set (vec_items t.held.draws) i d) ≡ true
  still_different = different_changed (λ (e : DrawRecord). e.place) t.held.cards no_draw (vec_items t.held.draws) i d t.places_different below next.place

  pub one_more : draw_moves (set (vec_items t.held.draws) i d) ≡ draw_moves (vec_items t.held.draws) + 1
  one_more = moves_changed (vec_items t.held.draws) i d below next.more

  pub room_for_one : vec_len t.held.moves < vec_capacity t.held.moves
  room_for_one =
      let fewer = different_few (λ (e : DrawRecord). e.place) t.held.cards (set (vec_items t.held.draws) i d) still_different in
      omega (
        arith,
        t.moves_long,
        t.moves_room,
        one_more,
        t.held.disclosures.ok.0,
        moves_fit t.held.seats t.held.cards t.held.locked (vec_len t.held.disclosures) (set (vec_items t.held.draws) i d) t.held.phase t.seats_least t.step (disclosures_few t) still_fair fewer,
      )

module _ (t : Table) (i : ℕ) (within : i < vec_len t.held.draws) where
  -- a draw that is read from a table
  pub is_draw : (d : DrawRecord) → d ≡ get_or (vec_items t.held.draws) i d → d ≡ draw_at (state_of t) i
  is_draw d read = read ∙ get_or_default (vec_items t.held.draws) i d no_draw (omega (arith, t.held.draws.ok.0))

-- a table with one draw more
module _ (t : Table) (d : DrawRecord) (below : d.place < t.held.cards) (free : taken (vec_items t.held.draws) d.place ≡ false)
    (end : fair_end d.end t.held.seats d.shares d.shown ≡ true) (one : moves_of d ≡ 1) where
  pub added_fair : fair t.held.seats (vec_items t.held.draws ++ (d ∷ [])) ≡ true
  added_fair = fair_added t.held.seats (vec_items t.held.draws) d t.draws_fair end

  pub added_different : different (λ e. e.place) t.held.cards (vec_items t.held.draws ++ (d ∷ [])) ≡ true
  added_different = different_added (λ (e : DrawRecord). e.place) t.held.cards (vec_items t.held.draws) d t.places_different below free

  pub added_moves : draw_moves (vec_items t.held.draws ++ (d ∷ [])) ≡ draw_moves (vec_items t.held.draws) + 1
  added_moves = omega (arith, moves_added (vec_items t.held.draws) d)

  added_few : length (vec_items t.held.draws ++ (d ∷ [])) ≤ t.held.cards
  added_few = different_few (λ (e : DrawRecord). e.place) t.held.cards (vec_items t.held.draws ++ (d ∷ [])) added_different

  pub room_for_draw : vec_len t.held.draws < vec_capacity t.held.draws
  room_for_draw = omega (arith, t.draws_room, t.held.draws.ok.0, added_few, length_push (vec_items t.held.draws) d)

  pub room_for_its_move : vec_len t.held.moves < vec_capacity t.held.moves
  room_for_its_move =
      omega (
        arith,
        t.moves_long,
        t.moves_room,
        added_moves,
        moves_fit t.held.seats t.held.cards t.held.locked (vec_len t.held.disclosures) (vec_items t.held.draws ++ (d ∷ [])) t.held.phase t.seats_least t.step (disclosures_few t) added_fair added_few,
      )

-- a phase that is closed
phase_step : (p : Phase) (locked seats : ℕ) → closable p ≡ true → in_step p locked seats ≡ true → (in_step (phase_after p) locked seats ≡ true) × (closes (phase_after p) ≡ closes p + 1)
phase_step Locking locked seats c h = absurd (false≢true c)
phase_step Dealing locked seats c h = (h, refl)
phase_step Showdown locked seats c h = (h, refl)
phase_step Audit locked seats c h = absurd (false≢true c)

pub room_to_close : (t : Table) → closable t.held.phase ≡ true → vec_len t.held.moves < vec_capacity t.held.moves
room_to_close t c =
    let p = phase_step t.held.phase t.held.locked t.held.seats c t.step in
    omega (
      arith,
      t.moves_long,
      t.moves_room,
      p.1,
      moves_fit t.held.seats t.held.cards t.held.locked (vec_len t.held.disclosures) (vec_items t.held.draws) (phase_after t.held.phase) t.seats_least p.0 (disclosures_few t) t.draws_fair (draws_few t),
    )

-- a draw that begins is fair
pub begun_fair : (t : Table) → fair_end Running t.held.seats 0 false ≡ true
begun_fair t = and_from (ltb (0 + 1) t.held.seats) true (lt-ltb (0 + 1) t.held.seats (omega (arith, t.seats_least))) refl

-- a table with one disclosure more
module _ (t : Table) (d : Disclosure) (below : d.seat < t.held.seats) (free : has_disclosed (vec_items t.held.disclosures) d.seat ≡ false) where
  pub disclosed_different : different (λ e. e.seat) t.held.seats (vec_items t.held.disclosures ++ (d ∷ [])) ≡ true
  disclosed_different = different_added (λ (e : Disclosure). e.seat) t.held.seats (vec_items t.held.disclosures) d t.disclosures_different below free

  disclosed_few : vec_len t.held.disclosures + 1 ≤ t.held.seats
  disclosed_few =
      omega (
        arith,
        t.held.disclosures.ok.0,
        length_push (vec_items t.held.disclosures) d,
        different_few (λ (e : Disclosure). e.seat) t.held.seats (vec_items t.held.disclosures ++ (d ∷ [])) disclosed_different,
      )

  pub room_for_disclosure : vec_len t.held.disclosures < vec_capacity t.held.disclosures
  room_for_disclosure = omega (arith, t.disclosures_room, disclosed_few)

  pub room_for_order : vec_len t.held.orders + t.held.cards ≤ vec_capacity t.held.orders
  room_for_order = omega (arith, t.orders_long, t.orders_room, suc-mul (vec_len t.held.disclosures) t.held.cards, mul-le-mul_right t.held.cards disclosed_few)

  pub room_to_disclose : vec_len t.held.moves < vec_capacity t.held.moves
  room_to_disclose =
      omega (
        arith,
        t.moves_long,
        t.moves_room,
        moves_fit t.held.seats t.held.cards t.held.locked (vec_len t.held.disclosures + 1) (vec_items t.held.draws) t.held.phase t.seats_least t.step disclosed_few t.draws_fair (draws_few t),
      )

-- a table with one deck more
module _ (t : Table) (locking : t.held.phase ≡ Locking) where
  pub unlocked : t.held.locked < t.held.seats
  unlocked = ltb-true t.held.locked t.held.seats (subst (λ (p : Phase). in_step p t.held.locked t.held.seats ≡ true) locking t.step)

  pub room_to_lock : vec_len t.held.moves < vec_capacity t.held.moves
  room_to_lock =
      omega (
        arith,
        t.moves_long,
        t.moves_room,
        ap closes locking,
        unlocked,
        moves_fit t.held.seats t.held.cards t.held.seats (vec_len t.held.disclosures) (vec_items t.held.draws) Dealing t.seats_least (eq-eqb t.held.seats t.held.seats refl) (disclosures_few t) t.draws_fair (draws_few t),
      )
