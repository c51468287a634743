-- The law of the table, for any list of accepted moves, and for any two.
use Rattle.std.proofs.Common.{◌≡◌, ℕ, zero, suc, ◌≤◌, true, List, [], ◌∷◌, take, Some, sym, ◌∙◌, arith}
use Rattle.std.specs.List.{slice_get}
use Rattle.cipher.specs.Cipher.{CipherMeaning, CipherLaws}
use Rattle.table.specs.Rules.{within_limits}
use Rattle.verdict.specs.Log.{Log, drawn}
use Rattle.session.specs.Law.{TableLaw, CardsAgree, RunsLaw}
use Rattle.session.specs.Runs.{Asked, with_call, accepted, answer, answers}
use Rattle.session.proofs.Accepted.{Accepted, limits_of, run_accepted}
use Rattle.session.proofs.Places.{drawn_below, drawn_differ}
use Rattle.session.proofs.Sharing.{shared_by_others, shared_once, shared_by_seats, drawn_fair}
use Rattle.session.proofs.Shows.{shown_dealt, shown_held}
use Rattle.session.proofs.Verdicts.{audit_clean, clean_audit, audit_names}

pub table_law : (m : CipherMeaning) → CipherLaws m → (S D : ℕ) → within_limits S D ≡ true
    → (log : Log) → Accepted m S D log → TableLaw m S D log
table_law m laws S D within log all =
    let bounds = limits_of S D within in
    let some_seat : 1 ≤ S = omega (arith, bounds.seats_least) in
    let fair = λ (d : ℕ). drawn_fair m S D some_seat d log all in
    record {
      place_below = λ d. drawn_below m S D d log all;
      places_differ = λ d e. drawn_differ m S D d e log all;
      card_held = shown_held m laws S D some_seat bounds.cards_most log all;
      shared_whole = λ d c shown. shared_by_others S (drawn S d log) (fair d) (shown_dealt m S D log all d c shown);
      shared_once = λ d. shared_once S (drawn S d log) (fair d);
      shared_by_seats = λ d. shared_by_seats S (drawn S d log) (fair d);
      audited = λ n. record {
        clean_honest = audit_clean n S D log m all some_seat;
        honest_clean = clean_audit n S D log m all some_seat;
        else_named = audit_names n S D log m all some_seat;
      };
    }

-- of a whole list of calls
pub run_law : (m : CipherMeaning) → CipherLaws m → (S D : ℕ) (calls : List Asked) → within_limits S D ≡ true → TableLaw m S D (accepted m S D [] calls)
run_law m laws S D calls within = table_law m laws S D within _ (run_accepted m S D calls [] tt)

pub cards_agree : (m : CipherMeaning) → CipherLaws m → (S D : ℕ) → within_limits S D ≡ true
    → (log : Log) → Accepted m S D log
    → (m' : CipherMeaning) → CipherLaws m' → (S' D' : ℕ) → within_limits S' D' ≡ true
    → (log' : Log) → Accepted m' S' D' log'
    → CardsAgree m S D log m' S' D' log'
cards_agree m laws S D within log all m' laws' S' D' within' log' all' =
    let here = (table_law m laws S D within log all).card_held in
    let there = (table_law m' laws' S' D' within' log' all').card_held in
    record {
      same_held = λ clean clean' d c d' c' shown shown' same. sym (here clean d c shown) ∙ same ∙ there clean' d' c' shown';
      same_card = λ clean clean' d c d' c' shown shown' same. here clean d c shown ∙ same ∙ sym (there clean' d' c' shown');
    }

-- a call of a list, by its number
answered_at : (m : CipherMeaning) (S D : ℕ) (calls : List Asked) (k : ℕ) (c : Asked) (log : Log) → slice_get calls k ≡ Some c
    → slice_get (answers m S D log calls) k ≡ Some (answer m S D (accepted m S D log (take k calls)) c)
answered_at m S D [] k c log is = cc
answered_at m S D (b ∷ calls) zero c log is = cc
answered_at m S D (b ∷ calls) (suc k) c log is = answered_at m S D calls k c (with_call m S D log b) is

-- the runs of two lists of calls
pub runs_law : (m : CipherMeaning) → CipherLaws m → (S D : ℕ) (calls : List Asked)
    → (m' : CipherMeaning) → CipherLaws m' → (S' D' : ℕ) (calls' : List Asked)
    → RunsLaw m S D calls m' S' D' calls'
runs_law m laws S D calls m' laws' S' D' calls' =
    let all = λ (n : ℕ). run_accepted m S D (take n calls) [] tt in
    let all' = λ (n : ℕ). run_accepted m' S' D' (take n calls') [] tt in
    record {
      answered_first = λ k c is. answered_at m S D calls k c [] is;
      answered_second = λ k c is. answered_at m' S' D' calls' k c [] is;
      first = λ within n. table_law m laws S D within _ (all n);
      second = λ within n. table_law m' laws' S' D' within _ (all' n);
      in_first = λ within n n'. cards_agree m laws S D within _ (all n) m laws S D within _ (all n');
      in_second = λ within n n'. cards_agree m' laws' S' D' within _ (all' n) m' laws' S' D' within _ (all' n');
      in_both = λ within within' n n'. cards_agree m laws S D within _ (all n) m' laws' S' D' within' _ (all' n');
    }
