-- Draws of a table: what stays fair, and how many moves they have.
use Rattle.std.proofs.Common.{◌≡◌, ℕ, ◌+◌, ◌*◌, ◌<◌, ◌≤◌, Bool, true, false, cond, not, ltb, List, [], ◌∷◌, ◌++◌, length, get_or, set, sym, refl, ◌∙◌, subst, arith}
use Rattle.std.proofs.lemmas.Bool.{and_parts, and_from, not-true, ltb-true, eqb-true}
use Rattle.std.specs.List.{AllPass}
use Rattle.std.proofs.lemmas.List.Sums.{AllPass-from_list_all, list_all-from_AllPass, sum_by-le, sum_by-set, sum_by-append}
use Rattle.std.proofs.lemmas.List.Folds.{list_all-append}
use Rattle.std.proofs.lemmas.List.Elements.{All-set}
use Rattle.table.specs.State.{no_draw, is_running, is_dealt}
use Rattle.table.specs.Sound.{fair_end, fair, moves_of, draw_moves}
use Rattle.table.specs.declared.record.DrawRecord.{DrawRecord}
use Rattle.table.specs.declared.record.End.{End}
use Rattle.table.specs.declared.record.End.TheVariants.{Running, Dealt, Abandoned}

module _ (seats : ℕ) where
  abbrev Fair : DrawRecord → Type 0
  Fair d = fair_end d.end seats d.shares d.shown ≡ true

  each_fair : (ds : List DrawRecord) → fair seats ds ≡ true → AllPass (λ d. fair_end d.end seats d.shares d.shown) ds
  each_fair ds h = AllPass-from_list_all (λ d. fair_end d.end seats d.shares d.shown) ds h

  pub fair_at : (ds : List DrawRecord) (i : ℕ) → fair seats ds ≡ true → i < length ds → Fair (get_or ds i no_draw)
  fair_at ds i h below = each_fair ds h i no_draw below

  pub fair_changed : (ds : List DrawRecord) (i : ℕ) (d : DrawRecord) → fair seats ds ≡ true → Fair d → fair seats (set ds i d) ≡ true
  fair_changed ds i d h end =
      list_all-from_AllPass (λ e. fair_end e.end seats e.shares e.shown) (set ds i d) (All-set Fair ds i d end (each_fair ds h))

  pub fair_added : (ds : List DrawRecord) (d : DrawRecord) → fair seats ds ≡ true → Fair d → fair seats (ds ++ (d ∷ [])) ≡ true
  fair_added ds d h end =
      list_all-append (λ e. fair_end e.end seats e.shares e.shown) ds (d ∷ [])
      ∙ and_from (fair seats ds) _ h (and_from _ true end refl)

  -- a fair draw has at most S + 1 moves
  moves_most : (end : End) (shares : ℕ) (shown : Bool) → 2 ≤ seats → fair_end end seats shares shown ≡ true
      → 1 + shares + cond (is_running end) 0 (cond (is_dealt end) 0 1) + cond shown 1 0 ≤ seats + 1
  moves_most Running shares shown two h =
      let p = and_parts (ltb (shares + 1) seats) (not shown) h in
      subst (λ (b : Bool). 1 + shares + 0 + cond b 1 0 ≤ seats + 1) (sym (not-true shown p.1)) (omega (arith, ltb-true (shares + 1) seats p.0))
  moves_most Dealt shares true two h = omega (arith, eqb-true (shares + 1) seats h)
  moves_most Dealt shares false two h = omega (arith, eqb-true (shares + 1) seats h)
  moves_most Abandoned shares shown two h =
      let p = and_parts (ltb (shares + 1) seats) (not shown) h in
      subst (λ (b : Bool). 1 + shares + 1 + cond b 1 0 ≤ seats + 1) (sym (not-true shown p.1)) (omega (arith, ltb-true (shares + 1) seats p.0))

  pub moves_bounded : (ds : List DrawRecord) → 2 ≤ seats → fair seats ds ≡ true → draw_moves ds ≤ length ds * (seats + 1)
  moves_bounded ds two h =
      sum_by-le moves_of (seats + 1) ds
      (λ k d below. let e = get_or ds k d in moves_most e.end e.shares e.shown two (each_fair ds h k d below))

-- the moves of draws with one changed, or one more
pub moves_changed : (ds : List DrawRecord) (i : ℕ) (d : DrawRecord) → i < length ds → moves_of d ≡ moves_of (get_or ds i no_draw) + 1 → draw_moves (set ds i d) ≡ draw_moves ds + 1
moves_changed ds i d below more = omega (arith, sum_by-set moves_of ds i d no_draw below)

pub moves_added : (ds : List DrawRecord) (d : DrawRecord) → draw_moves (ds ++ (d ∷ [])) ≡ draw_moves ds + moves_of d
moves_added ds d = omega (arith, sum_by-append moves_of ds (d ∷ []))
