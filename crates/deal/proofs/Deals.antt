-- Why the card that is read is the card that was dealt.
use Rattle.std.proofs.Common.{◌≡◌, ℕ, ◌<◌, Some, None, Ok, Option, sym, ap, ◌∙◌, arith}
use Rattle.std.proofs.lemmas.Bool.Decides.{nat_tests}
use Rattle.cipher.specs.Cipher.{CipherMeaning, CipherLaws}
use Rattle.cipher.specs.Answers.{lock_answer, code_answer, undo_answer, Reads}
use Rattle.cipher.proofs.Answers.{lock_passed, undo_passed, code_passed}
use Rattle.deal.specs.Deal.{deal_answer}

module _ (m : CipherMeaning) (laws : CipherLaws m) (c j k : ℕ) where
  card_is : (opened : ℕ) (r : Option ℕ) → c < 52 → opened ≡ m.code c → Reads m opened r → r ≡ Some c
  card_is opened (Some d) h is reads = ap Some (laws.codes_differ d c reads.0 h (reads.1 ∙ is))
  card_is opened None h is reads = absurd (reads c h (sym is))

  pub all_dealt : (code once twice between swapped undo undo' share opened : ℕ) (card : Option ℕ)
      → Ok code ≡ code_answer m c → Ok once ≡ lock_answer m j code → Ok twice ≡ lock_answer m k once
      → Ok between ≡ lock_answer m k code → Ok swapped ≡ lock_answer m j between
      → Ok undo ≡ undo_answer m j → Ok undo' ≡ undo_answer m k
      → Ok share ≡ lock_answer m undo twice → Ok opened ≡ lock_answer m undo' share → Reads m opened card
      → Ok (record { keys = (j, k); code = code; once = once; twice = twice; swapped = swapped; undo = (undo, undo'); share = share; opened = opened; card = card }) ≡ deal_answer m c j k
  all_dealt code once twice between swapped undo undo' share opened card is_code is_once is_twice is_between is_swapped is_undo is_undo' is_share is_opened reads =
      let coding = code_passed m c code is_code in
      let locking = lock_passed m j code once is_once in
      let again = lock_passed m k once twice is_twice in
      let other = lock_passed m k code between is_between in
      let turned = lock_passed m j between swapped is_swapped in
      let undoing = undo_passed m j undo is_undo in
      let undoing' = undo_passed m k undo' is_undo' in
      let sharing = lock_passed m undo twice share is_share in
      let opening = lock_passed m undo' share opened is_opened in
      let coded = laws.coded c coding.0 in
      -- the order of the locks is one, and so the lock of seat 0 comes off below that of seat 1
      let either = laws.commute j k (m.code c) locking.0 again.0 coded in
      let below = laws.commute (m.undo j) k (m.lock j (m.code c)) (laws.undo_lawful j locking.0) again.0 (laws.locked j (m.code c) locking.0 coded) in
      let first = laws.undone j (m.code c) locking.0 coded in
      let second = laws.undone k (m.code c) again.0 coded in
      let opens : opened ≡ m.code c = cc in
      let card = card_is opened card coding.0 opens reads in
      grind (arith, nat_tests)
