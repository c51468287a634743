-- The law over whole runs: what holds of the entries of any list of calls, and of any two.
use Rattle.std.specs.Prelude.{◌≡◌, ℕ, ◌<◌, ◌≤◌, true, false, cond, List, [], ◌∷◌, ◌++◌, map, take, Ok, Some, None, slice_get, ◌==◌, ◌≢◌}
use Rattle.std.specs.List.{list_any}
use Rattle.cipher.specs.Cipher.{CipherMeaning}
use Rattle.permutation.specs.Permutation.{count, upto, composed_at}
use Rattle.table.specs.State.{Move, show}
use Rattle.table.specs.Rules.{within_limits}
use Rattle.verdict.specs.Log.{Log, draws, entries, drawn, secret, discloses_seat}
use Rattle.verdict.specs.Honesty.{Told, first_deck, told_by, honest, accused, dishonest}
use Rattle.verdict.specs.declared.Kind.{Kind}
use Rattle.session.specs.Runs.{Asked, audit, answer, answers, accepted}
use Rattle.session.specs.declared.Reply.TheVariants.{Audited}

-- the move x stands in the log, and those before it are these
pub record Entry (log : Log) (x : Move) (before : Log) : Type 0 where
  pub later : Log
  pub stands : log ≡ later ++ (x ∷ before)

-- every entry of the log is honest by what is told
abbrev pub AllHonest : CipherMeaning → ℕ → Told → Log → Type 0
AllHonest m D told log = (x : Move) (before : Log) → Entry log x before → honest m D told before x ≡ true

module _ (m : CipherMeaning) (S D : ℕ) (log : Log) where
  abbrev pub told : Told
  told = told_by S (first_deck m D) log

  abbrev pub AllDisclosed : Type 0
  AllDisclosed = (s : ℕ) → s < S → list_any (discloses_seat s) log ≡ true

  pub record CleanTable : Type 0 where
    pub disclosed : AllDisclosed
    pub honest_all : AllHonest m D told log

  -- the first entry that is not honest is this one
  pub record FirstDishonest (entry seat : ℕ) (kind : Kind) : Type 0 where
    pub x : Move
    pub before : Log
    pub stands : Entry log x before
    pub not_honest : honest m D told before x ≡ false
    pub none_earlier : AllHonest m D told before
    pub numbered : entry ≡ entries before
    pub named : accused m D told entry x ≡ dishonest entry seat kind

  -- the card that the composed order holds at a place: o(0)(o(1)(… o(S - 1)(place) …))
  abbrev pub held : ℕ → ℕ
  held place = composed_at (map (λ s. (secret s log).order) (upto S)) place

  -- the card c was shown for draw d
  pub record Shown (d c : ℕ) : Type 0 where
    pub before : Log
    pub stands : Entry log (show d c) before

  -- once all seats have disclosed, the audit is clean exactly when every entry is honest, and else names the first that is not
  pub record AuditLaw : Type 0 where
    pub clean_honest : AllDisclosed → answer m S D log audit ≡ Ok (Audited None) → AllHonest m D told log
    pub honest_clean : AllDisclosed → AllHonest m D told log → answer m S D log audit ≡ Ok (Audited None)
    pub else_named : AllDisclosed → (answer m S D log audit ≢ Ok (Audited None))
        → (entry : ℕ) × (seat : ℕ) × (kind : Kind) × (answer m S D log audit ≡ Ok (Audited (dishonest entry seat kind))) × FirstDishonest entry seat kind

module _ (m : CipherMeaning) (S D : ℕ) (log : Log) where
  pub record TableLaw : Type 0 where
    -- drawn places are below D, and different
    pub place_below : (d : ℕ) → d < draws log → (drawn S d log).place < D
    pub places_differ : (d e : ℕ) → d < e → e < draws log → (drawn S d log).place ≢ (drawn S e log).place
    -- a card shown at a clean table is the one held at the place drawn
    pub card_held : CleanTable m S D log → (d c : ℕ) → Shown m S D log d c → c ≡ held m S D log (drawn S d log).place
    -- a shown card's draw has one share of each seat but the drawer; no draw has two of one seat, or one of a seat that there is not
    pub shared_whole : (d c : ℕ) → Shown m S D log d c → (s : ℕ) → s < S → count s (drawn S d log).sharers ≡ cond (s == (drawn S d log).drawer) 0 1
    pub shared_once : (d s : ℕ) → count s (drawn S d log).sharers ≤ 1
    pub shared_by_seats : (d s : ℕ) → S ≤ s → count s (drawn S d log).sharers ≡ 0
    -- under that of the calls or any other
    pub audited : (n : CipherMeaning) → AuditLaw n S D log

-- cards shown at two clean tables, or at one, are equal exactly when those held at the places drawn are
module _ (m : CipherMeaning) (S D : ℕ) (log : Log) (m' : CipherMeaning) (S' D' : ℕ) (log' : Log) where
  pub record CardsAgree : Type 0 where
    pub same_held : CleanTable m S D log → CleanTable m' S' D' log' → (d c d' c' : ℕ) → Shown m S D log d c → Shown m' S' D' log' d' c'
        → c ≡ c' → held m S D log (drawn S d log).place ≡ held m' S' D' log' (drawn S' d' log').place
    pub same_card : CleanTable m S D log → CleanTable m' S' D' log' → (d c d' c' : ℕ) → Shown m S D log d c → Shown m' S' D' log' d' c'
        → held m S D log (drawn S d log).place ≡ held m' S' D' log' (drawn S' d' log').place → c ≡ c'

-- the moves accepted of the first n calls
abbrev pub log_after : CipherMeaning → ℕ → ℕ → List Asked → ℕ → Log
log_after m S D calls n = accepted m S D [] (take n calls)

-- two lists of calls, each made on a new table under a cipher of its own: at any time these hold
module _ (m : CipherMeaning) (S D : ℕ) (calls : List Asked) (m' : CipherMeaning) (S' D' : ℕ) (calls' : List Asked) where
  abbrev log : ℕ → Log
  log = log_after m S D calls

  abbrev log' : ℕ → Log
  log' = log_after m' S' D' calls'

  pub record RunsLaw : Type 0 where
    -- call number k is answered by the rules after the calls before it
    pub answered_first : (k : ℕ) (c : Asked) → slice_get calls k ≡ Some c → slice_get (answers m S D [] calls) k ≡ Some (answer m S D (log k) c)
    pub answered_second : (k : ℕ) (c : Asked) → slice_get calls' k ≡ Some c → slice_get (answers m' S' D' [] calls') k ≡ Some (answer m' S' D' (log' k) c)
    pub first : within_limits S D ≡ true → (n : ℕ) → TableLaw m S D (log n)
    pub second : within_limits S' D' ≡ true → (n : ℕ) → TableLaw m' S' D' (log' n)
    pub in_first : within_limits S D ≡ true → (n n' : ℕ) → CardsAgree m S D (log n) m S D (log n')
    pub in_second : within_limits S' D' ≡ true → (n n' : ℕ) → CardsAgree m' S' D' (log' n) m' S' D' (log' n')
    pub in_both : within_limits S D ≡ true → within_limits S' D' ≡ true → (n n' : ℕ) → CardsAgree m S D (log n) m' S' D' (log' n')
