-- Which entries are honest, and what an audit says of a log.
use Rattle.std.specs.Prelude.{ℕ, zero, suc, Bool, true, false, cond, ◌&&◌, List, [], ◌∷◌, map, Ok, Err, Result, Option, Some, None, ◌==◌, slice_index}
use Rattle.std.specs.Option.{option_or}
use Rattle.cipher.specs.Cipher.{CipherMeaning}
use Rattle.cipher.specs.Answers.{lock_answer, unlock_answer, code_answer}
use Rattle.cipher.specs.declared.fault.CipherFault.{CipherFault}
use Rattle.permutation.specs.Permutation.{upto}
use Rattle.table.specs.State.{Move, lock, draw, share, abandon, close, show, disclose}
use Rattle.verdict.specs.Log.{Log, entries, up_to, drawn, secret}
use Rattle.verdict.specs.declared.Kind.{Kind}
use Rattle.verdict.specs.declared.Kind.TheVariants as kind
use Rattle.verdict.specs.declared.Finding.{Finding}

-- a step of the cipher that is not refused and gives this value
abbrev pub gives : Result ℕ CipherFault → ℕ → Bool
gives (Ok w) v = w == v
gives (Err fault) v = false

-- every number below n passes the test
abbrev pub all_below : ℕ → (ℕ → Bool) → Bool
all_below zero test = true
all_below (suc n) test = test n && all_below n test

module _ (m : CipherMeaning) where
  -- the codes of the cards 0 to D - 1
  abbrev pub first_deck : ℕ → List ℕ
  first_deck D = map m.code (upto D)

  -- at place i the value at place order(i) of the deck before, locked under the key
  abbrev pub honest_place : ℕ → List ℕ → List ℕ → List ℕ → ℕ → Bool
  honest_place key order before deck i = gives (lock_answer m key (slice_index before (slice_index order i))) (slice_index deck i)

  -- that, at each of D places
  abbrev pub honest_lock : ℕ → ℕ → List ℕ → List ℕ → List ℕ → Bool
  honest_lock D key order before deck = all_below D (honest_place key order before deck)

  -- the chain value with the key's lock taken off
  abbrev pub honest_share : ℕ → ℕ → ℕ → Bool
  honest_share key chain value = gives (unlock_answer m key chain) value

  -- the card's code is the chain value with the drawer's lock taken off
  abbrev pub is_code : Result ℕ CipherFault → Result ℕ CipherFault → Bool
  is_code (Ok code) opened = gives opened code
  is_code (Err fault) opened = false

  abbrev pub honest_show : ℕ → ℕ → ℕ → Bool
  honest_show key chain card = is_code (code_answer m card) (unlock_answer m key chain)

-- the deck entered last, or the one given if none was
abbrev pub last_deck : List ℕ → Log → List ℕ
last_deck first [] = first
last_deck first (lock s deck ∷ log) = deck
last_deck first (draw s p ∷ log) = last_deck first log
last_deck first (share s v ∷ log) = last_deck first log
last_deck first (abandon ∷ log) = last_deck first log
last_deck first (close ∷ log) = last_deck first log
last_deck first (show d c ∷ log) = last_deck first log
last_deck first (disclose s k o ∷ log) = last_deck first log

-- the chain value of the last draw: the last deck's value at its place, and then each share
abbrev pub chain : List ℕ → Log → ℕ
chain first [] = 0
chain first (lock s deck ∷ log) = chain first log
chain first (draw s p ∷ log) = slice_index (last_deck first log) p
chain first (share s v ∷ log) = v
chain first (abandon ∷ log) = chain first log
chain first (close ∷ log) = chain first log
chain first (show d c ∷ log) = chain first log
chain first (disclose s k o ∷ log) = chain first log

-- what an audit goes by: each seat's key and order, and each draw's drawer and chain value
pub record Told : Type 0 where
  pub key : ℕ → ℕ
  pub order : ℕ → List ℕ
  pub drawer : ℕ → ℕ
  pub value : ℕ → ℕ

-- what a log of a hand of S seats and this first deck tells
abbrev pub told_by : ℕ → List ℕ → Log → Told
told_by S first log = record {
  key = λ s. (secret s log).key;
  order = λ s. (secret s log).order;
  drawer = λ d. (drawn S d log).drawer;
  value = λ d. chain first (up_to d log);
}

-- what an audit finds: nothing in a clean hand, or else the first entry that is not honest
abbrev pub Verdict : Type 0
Verdict = Option Finding

abbrev pub dishonest : ℕ → ℕ → Kind → Verdict
dishonest entry seat kind = Some (record { entry = entry; seat = seat; kind = kind })

-- what was found earlier is named first
abbrev pub earlier : Verdict → Verdict → Verdict
earlier = option_or

module _ (m : CipherMeaning) (D : ℕ) (told : Told) where
  -- a move, by those before it
  abbrev pub honest : Log → Move → Bool
  honest before (lock s deck) = honest_lock m D (told.key s) (told.order s) (last_deck (first_deck m D) before) deck
  honest before (draw s p) = true
  honest before (share s v) = honest_share m (told.key s) (chain (first_deck m D) before) v
  honest before abandon = true
  honest before close = true
  honest before (show d c) = honest_show m (told.key (told.drawer d)) (told.value d) c
  honest before (disclose s k o) = true

  -- an entry of this number named by its seat and kind; no others can be dishonest
  abbrev pub accused : ℕ → Move → Verdict
  accused entry (lock s deck) = dishonest entry s kind.Lock
  accused entry (draw s p) = None
  accused entry (share s v) = dishonest entry s kind.Share
  accused entry abandon = None
  accused entry close = None
  accused entry (show d c) = dishonest entry (told.drawer d) kind.Show
  accused entry (disclose s k o) = None

  abbrev pub finding : Log → Move → Verdict
  finding before x = cond (honest before x) None (accused (entries before) x)

  abbrev pub verdict : Log → Verdict
  verdict [] = None
  verdict (x ∷ before) = earlier (verdict before) (finding before x)
