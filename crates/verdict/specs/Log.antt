-- A hand by its moves: a log is the list of the moves accepted so far, the newest first.
use Rattle.std.specs.Prelude.{ℕ, suc, ◌+◌, Bool, true, false, cond, List, [], ◌∷◌, length, ◌==◌}
use Rattle.table.specs.State.{Move, lock, draw, share, abandon, close, show, disclose, phase_after}
use Rattle.table.specs.declared.record.End.{End}
use Rattle.table.specs.declared.record.End.TheVariants.{Running, Dealt, Abandoned}
use Rattle.table.specs.declared.record.Phase.{Phase}
use Rattle.table.specs.declared.record.Phase.TheVariants.{Locking, Dealing}

abbrev pub Log : Type 0
Log = List Move

-- one answer for each kind of move
abbrev by_kind : (l d s a c w o : Bool) → Move → Bool
by_kind l d s a c w o (lock _ _) = l
by_kind l d s a c w o (draw _ _) = d
by_kind l d s a c w o (share _ _) = s
by_kind l d s a c w o abandon = a
by_kind l d s a c w o close = c
by_kind l d s a c w o (show _ _) = w
by_kind l d s a c w o (disclose _ _ _) = o

abbrev pub is_lock : Move → Bool
is_lock = by_kind true false false false false false false

abbrev pub is_draw : Move → Bool
is_draw = by_kind false true false false false false false

abbrev pub is_disclose : Move → Bool
is_disclose = by_kind false false false false false false true

-- every move but a close makes an entry
abbrev pub makes_entry : Move → Bool
makes_entry = by_kind true true true true false true true

-- how many moves pass a test
abbrev pub tally : (Move → Bool) → Log → ℕ
tally test [] = 0
tally test (x ∷ log) = cond (test x) (suc (tally test log)) (tally test log)

abbrev pub locks : Log → ℕ
locks = tally is_lock

abbrev pub draws : Log → ℕ
draws = tally is_draw

abbrev pub disclosures : Log → ℕ
disclosures = tally is_disclose

-- the number of the entry that comes next
abbrev pub entries : Log → ℕ
entries = tally makes_entry

-- the last seat's lock begins the dealing, and a close the next phase
abbrev pub phase_in : ℕ → Log → Phase
phase_in S [] = Locking
phase_in S (lock s deck ∷ log) = cond (locks log + 1 == S) Dealing Locking
phase_in S (draw s p ∷ log) = phase_in S log
phase_in S (share s v ∷ log) = phase_in S log
phase_in S (abandon ∷ log) = phase_in S log
phase_in S (close ∷ log) = phase_after (phase_in S log)
phase_in S (show d c ∷ log) = phase_in S log
phase_in S (disclose s k o ∷ log) = phase_in S log

-- a draw and what became of it
pub record Drawn : Type 0 where
  pub drawer : ℕ
  pub place : ℕ
  -- the seats of its shares, the newest first
  pub sharers : List ℕ
  pub end : End

-- what stands for a draw that there is not
abbrev pub none_drawn : Drawn
none_drawn = record { drawer = 0; place = 0; sharers = []; end = Abandoned }

abbrev pub begun_by : ℕ → ℕ → Drawn
begun_by s p = record { drawer = s; place = p; sharers = []; end = Running }

-- share number S - 1 makes a draw dealt
abbrev pub with_share : ℕ → ℕ → Drawn → Drawn
with_share S s d = record {
  drawer = d.drawer;
  place = d.place;
  sharers = s ∷ d.sharers;
  end = cond (length d.sharers + 2 == S) Dealt Running;
}

abbrev pub given_up : Drawn → Drawn
given_up d = record { drawer = d.drawer; place = d.place; sharers = d.sharers; end = Abandoned }

-- the last draw: the shares and the abandonment that follow a draw belong to it
abbrev pub latest : ℕ → Log → Drawn
latest S [] = none_drawn
latest S (lock s deck ∷ log) = latest S log
latest S (draw s p ∷ log) = begun_by s p
latest S (share s v ∷ log) = with_share S s (latest S log)
latest S (abandon ∷ log) = given_up (latest S log)
latest S (close ∷ log) = latest S log
latest S (show d c ∷ log) = latest S log
latest S (disclose s k o ∷ log) = latest S log

-- the part of a log in which draw d is the last: up to the draw after it; nothing if there is no draw d
abbrev pub up_to : ℕ → Log → Log
up_to d [] = []
up_to d (x ∷ log) = cond (draws (x ∷ log) == d + 1) (x ∷ log) (up_to d log)

abbrev pub drawn : ℕ → ℕ → Log → Drawn
drawn S d log = latest S (up_to d log)

abbrev pub draws_place : ℕ → Move → Bool
draws_place q (lock s deck) = false
draws_place q (draw s p) = p == q
draws_place q (share s v) = false
draws_place q abandon = false
draws_place q close = false
draws_place q (show d c) = false
draws_place q (disclose s k o) = false

abbrev pub shows_draw : ℕ → Move → Bool
shows_draw e (lock s deck) = false
shows_draw e (draw s p) = false
shows_draw e (share s v) = false
shows_draw e abandon = false
shows_draw e close = false
shows_draw e (show d c) = d == e
shows_draw e (disclose s k o) = false

abbrev pub discloses_seat : ℕ → Move → Bool
discloses_seat r (lock s deck) = false
discloses_seat r (draw s p) = false
discloses_seat r (share s v) = false
discloses_seat r abandon = false
discloses_seat r close = false
discloses_seat r (show d c) = false
discloses_seat r (disclose s k o) = s == r

-- what a seat discloses
pub record Secret : Type 0 where
  pub key : ℕ
  pub order : List ℕ

-- what stands for a disclosure that there is not
abbrev pub no_secret : Secret
no_secret = record { key = 0; order = [] }

abbrev pub secret : ℕ → Log → Secret
secret r [] = no_secret
secret r (lock s deck ∷ log) = secret r log
secret r (draw s p ∷ log) = secret r log
secret r (share s v ∷ log) = secret r log
secret r (abandon ∷ log) = secret r log
secret r (close ∷ log) = secret r log
secret r (show d c ∷ log) = secret r log
secret r (disclose s k o ∷ log) = cond (s == r) (record { key = k; order = o }) (secret r log)
