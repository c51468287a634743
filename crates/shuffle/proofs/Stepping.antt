-- Why no step of the shuffle is refused, and what each of them leaves.
use Rattle.std.proofs.Common.{◌≡◌, ℕ, cond, List, [], ◌∷◌, map, length, get_or, replicate, Ok, Err, Result, refl, ap, ◌∙◌, ap₂, arith, MatchResult}
use Rattle.std.proofs.lemmas.List.FromFn.{fill_by_all}
use Rattle.std.proofs.lemmas.Result.{MatchResult-at_ok}
use Rattle.std.proofs.lemmas.Bool.{cond-true}
use Rattle.cipher.specs.Cipher.{CipherMeaning, CipherLaws}
use Rattle.cipher.specs.Decks.{locked_deck}
use Rattle.permutation.specs.Answer.{lengths_fit, rearrange_answer}
use Rattle.permutation.specs.Permutation.{composed, permutes, rearranged, upto}
use Rattle.permutation.specs.declared.fault.OrderFault.{OrderFault}
use Rattle.permutation.specs.declared.fault.OrderFault.TheVariants.{WrongLength, NotOrder}
use Rattle.permutation.proofs.Composing.{rearranged_composed}
use Rattle.seat.specs.Seat.{SeatMeaning, SeatLaws}
use Rattle.seat.specs.Answers.{lock_answer}
use Rattle.seat.specs.Generator.{drawn}
use Rattle.seat.specs.declared.fault.SeatFault.{SeatFault}
use Rattle.seat.specs.Generating.{generator_laws, lawful_from_lawful}
use Rattle.shuffle.specs.Shuffle.{locked_once, locked_twice}
use Rattle.shuffle.specs.Steps.{first_seat, second_seat, steps_of}
use Rattle.shuffle.specs.declared.steps.Steps.{Steps}
use Rattle.shuffle.proofs.Cards.{codes_values, codes_length, lock_of_values, once_values, once_length}

first_laws : SeatLaws first_seat
first_laws = generator_laws 1 5 refl

second_laws : SeatLaws second_seat
second_laws = generator_laws 2 5 refl

-- a seat that is made is the one that was asked for
pub seat_made : (s t : SeatMeaning) → ◌≡◌ {A = Result SeatMeaning SeatFault} (Ok s) (Ok t) → s ≡ t
seat_made s t h = cc

module _ (m : CipherMeaning) (laws : CipherLaws m) where
  first_locks : (deck : List ℕ) → deck ≡ map m.code (upto 5) → lock_answer m first_seat deck 5 ≡ Ok tt
  first_locks deck coded =
      ap (λ (d : List ℕ). lock_answer m first_seat d 5) coded
      ∙ lock_of_values m (first_seat.key m) 5 (map m.code (upto 5)) 5 (codes_values m laws 5 (omega arith)) (codes_length m laws 5)
      ∙ cond-true _ _ _ (lawful_from_lawful m laws (drawn 1))

  second_locks : (once : List ℕ) → once ≡ locked_once m first_seat 5 → lock_answer m second_seat once 5 ≡ Ok tt
  second_locks once locked =
      ap (λ (d : List ℕ). lock_answer m second_seat d 5) locked
      ∙ lock_of_values m (second_seat.key m) 5 (locked_once m first_seat 5) 5
      (once_values m laws first_seat second_seat first_laws second_laws 5 refl (lawful_from_lawful m laws (drawn 1)))
      (once_length m laws first_seat second_seat first_laws second_laws 5 refl)
      ∙ cond-true _ _ _ (lawful_from_lawful m laws (drawn 2))

  pub first_never_refuses : (s : SeatMeaning) (deck : List ℕ) (e : SeatFault) → s ≡ first_seat → deck ≡ map m.code (upto 5) → Err e ≡ lock_answer m s deck 5 → ⊥
  first_never_refuses s deck e is coded h =
      let ok = ap (λ (x : SeatMeaning). lock_answer m x deck 5) is ∙ first_locks deck coded in cc

  pub second_never_refuses : (t : SeatMeaning) (once : List ℕ) (e : SeatFault) → t ≡ second_seat → once ≡ locked_once m first_seat 5 → Err e ≡ lock_answer m t once 5 → ⊥
  second_never_refuses t once e is locked h =
      let ok = ap (λ (x : SeatMeaning). lock_answer m x once 5) is ∙ second_locks once locked in cc

-- the keys and the orders that are told
pub key_told : (m : CipherMeaning) (s t : SeatMeaning) (k : ℕ) → s ≡ t → k ≡ s.key m → k ≡ t.key m
key_told m s t k is told = told ∙ ap (λ (x : SeatMeaning). x.key m) is

pub order_told : (s t : SeatMeaning) (order : List ℕ) → s ≡ t → order ≡ s.order → order ≡ t.order
order_told s t order is told = told ∙ ap (λ (x : SeatMeaning). x.order) is

-- the decks that are made
pub once_made : (m : CipherMeaning) (s : SeatMeaning) (deck once : List ℕ) → s ≡ first_seat → deck ≡ map m.code (upto 5) → once ≡ locked_deck m (s.key m) s.order deck
    → once ≡ locked_once m first_seat 5
once_made m s deck once is coded locked = locked ∙ ap₂ (λ (x : SeatMeaning) (d : List ℕ). locked_deck m (x.key m) x.order d) is coded

pub twice_made : (m : CipherMeaning) (t : SeatMeaning) (once twice : List ℕ) → t ≡ second_seat → once ≡ locked_once m first_seat 5 → twice ≡ locked_deck m (t.key m) t.order once
    → twice ≡ locked_twice m first_seat second_seat 5
twice_made m t once twice is locked again = again ∙ ap₂ (λ (x : SeatMeaning) (d : List ℕ). locked_deck m (x.key m) x.order d) is locked

module _ (first second : List ℕ) (is : first ≡ first_seat.order) (is' : second ≡ second_seat.order) where
  pub rearranges : rearrange_answer (length first) second 5 ≡ Ok tt
  rearranges =
      ap₂ (λ (o p : List ℕ). rearrange_answer (length o) p 5) is is'
      ∙ ap₂ (λ (n k : ℕ). cond (lengths_fit n k 5) (cond (permutes second_seat.order) (Ok tt) (Err NotOrder)) (Err (WrongLength k))) first_laws.sized second_laws.sized
      ∙ cond-true _ _ _ second_laws.ordered

  pub composed_made : (r : Result (Unit {0}) OrderFault) (target : List ℕ) → r ≡ rearrange_answer (length first) second 5
      → MatchResult r (λ _. (d : ℕ) → target ≡ rearranged d first second) (λ _. target ≡ replicate 5 255)
      → target ≡ composed 5 (first_seat.order ∷ second_seat.order ∷ [])
  composed_made r target answer written =
      MatchResult-at_ok _ _ tt (answer ∙ rearranges) written 0
      ∙ ap₂ (rearranged 0) is (is' ∙ fill_by_all (λ i. get_or second_seat.order i 0) second_seat.order 5 0 second_laws.sized (λ k h. refl))
      ∙ rearranged_composed 5 first_seat.order (second_seat.order ∷ [])

pub cards_opened : (s t : SeatMeaning) (cards : List ℕ) → s ≡ first_seat → t ≡ second_seat → cards ≡ composed 5 (s.order ∷ t.order ∷ []) → cards ≡ composed 5 (first_seat.order ∷ second_seat.order ∷ [])
cards_opened s t cards is is' opened = opened ∙ ap₂ (λ (x y : SeatMeaning). composed 5 (x.order ∷ y.order ∷ [])) is is'

-- all of them together
pub all_steps : (m : CipherMeaning) {key key' : ℕ} {order order' codes once twice cards composed' : List ℕ}
    → key ≡ first_seat.key m → key' ≡ second_seat.key m → order ≡ first_seat.order → order' ≡ second_seat.order
    → codes ≡ map m.code (upto 5) → once ≡ locked_once m first_seat 5 → twice ≡ locked_twice m first_seat second_seat 5
    → cards ≡ composed 5 (first_seat.order ∷ second_seat.order ∷ []) → composed' ≡ composed 5 (first_seat.order ∷ second_seat.order ∷ [])
    → ◌≡◌ {A = Steps} (record { keys = (key, key'); orders = (order, order'); codes = codes; once = once; twice = twice; cards = cards; composed = composed' }) (steps_of m)
all_steps m k k' o o' c e t d b = cc
