-- The table that a log leads to looks as the log does, to the rules and to the audit.
use Rattle.std.proofs.Common.{◌≡◌, ℕ, ◌*◌, true, List, [], ◌∷◌, ◌++◌, sym, refl, ap, ◌∙◌, ap₂, append_assoc, append-nil}
use Rattle.cipher.specs.Cipher.{CipherMeaning}
use Rattle.table.specs.State.{lock, draw, share, abandon, close, show, disclose, State}
use Rattle.table.specs.View.{view_of}
use Rattle.table.specs.Rules.{within_limits}
use Rattle.table.specs.Rules.{audit_rules}
use Rattle.table.specs.declared.record.Event.{Event}
use Rattle.verdict.specs.Log.{Log, locks, disclosures, secret}
use Rattle.verdict.specs.Honesty.{first_deck, told_by, verdict}
use Rattle.verdict.specs.Tables.{part, move_in, entered, log_of, told_of, audit_answer}
use Rattle.session.specs.Runs.{view}
use Rattle.session.proofs.Accepted.{Accepted}
use Rattle.session.proofs.Lists.{part_next}
use Rattle.session.proofs.Replay.{replay, seats_kept, cards_kept, phase_kept, locked_kept, decks_long, disclosures_kept, entries_kept, draws_kept}
use Rattle.session.proofs.Drawing.{drawn_kept, shown_kept, taken_kept}
use Rattle.session.proofs.Disclosing.{disclosed_kept, orders_long, found_secret, secret_kept}

entered_more : (t : State) (log : Log) (es : List Event) (e : Event) → entered t log (es ++ (e ∷ [])) ≡ move_in t (entered t log es) e ∷ entered t log es
entered_more t log [] e = refl
entered_more t log (f ∷ es) e = entered_more t (move_in t log f ∷ log) es e

module _ (m : CipherMeaning) (S D : ℕ) where
  -- a table that begins with these decks and orders
  record Holds (t : State) (decks orders : List ℕ) : Type 0 where
    cards : t.cards ≡ D
    more_decks : List ℕ
    more_orders : List ℕ
    has_decks : t.decks ≡ decks ++ more_decks
    has_orders : t.orders ≡ orders ++ more_orders

  log_held : (log : Log) → Accepted m S D log → (t : State) → Holds t (replay S D log).decks (replay S D log).orders → entered t [] (replay S D log).moves ≡ log
  log_held [] all t h = refl
  log_held (lock s deck ∷ log) all t h =
      let u = replay S D log in
      let decks = h.has_decks ∙ append_assoc u.decks deck h.more_decks in
      let older = log_held log all.1 t (record { cards = h.cards; more_decks = deck ++ h.more_decks; more_orders = h.more_orders; has_decks = decks; has_orders = h.has_orders }) in
      let read = part_next D (locks log) u.decks deck h.more_decks (decks_long m S D log all.1) all.0.long in
      entered_more t [] u.moves _
      ∙ ap (λ (l : Log). lock s (part t.cards (locks l) t.decks) ∷ l) older
      ∙ ap₂ (λ (n : ℕ) (xs : List ℕ). lock s (part n (locks log) xs) ∷ log) h.cards decks
      ∙ ap (λ (xs : List ℕ). lock s xs ∷ log) read
  log_held (draw s p ∷ log) all t h = entered_more t [] (replay S D log).moves _ ∙ ap (λ (l : Log). draw s p ∷ l) (log_held log all.1 t h)
  log_held (share s v ∷ log) all t h = entered_more t [] (replay S D log).moves _ ∙ ap (λ (l : Log). share s v ∷ l) (log_held log all.1 t h)
  log_held (abandon ∷ log) all t h = entered_more t [] (replay S D log).moves _ ∙ ap (λ (l : Log). abandon ∷ l) (log_held log all.1 t h)
  log_held (close ∷ log) all t h = entered_more t [] (replay S D log).moves _ ∙ ap (λ (l : Log). close ∷ l) (log_held log all.1 t h)
  log_held (show d c ∷ log) all t h = entered_more t [] (replay S D log).moves _ ∙ ap (λ (l : Log). show d c ∷ l) (log_held log all.1 t h)
  log_held (disclose s k o ∷ log) all t h =
      let u = replay S D log in
      let orders = h.has_orders ∙ append_assoc u.orders o h.more_orders in
      let older = log_held log all.1 t (record { cards = h.cards; more_decks = h.more_decks; more_orders = o ++ h.more_orders; has_decks = h.has_decks; has_orders = orders }) in
      let long = orders_long m S D log all.1 ∙ ap (λ (n : ℕ). n * D) (disclosures_kept S D log) in
      let read = part_next D (disclosures log) u.orders o h.more_orders long all.0.long in
      entered_more t [] u.moves _
      ∙ ap (λ (l : Log). disclose s k (part t.cards (disclosures l) t.orders) ∷ l) older
      ∙ ap₂ (λ (n : ℕ) (xs : List ℕ). disclose s k (part n (disclosures log) xs) ∷ log) h.cards orders
      ∙ ap (λ (xs : List ℕ). disclose s k xs ∷ log) read

  module _ (limits : within_limits S D ≡ true) (log : Log) (all : Accepted m S D log) where
    pub view_kept : view_of (replay S D log) ≡ view S D log
    view_kept =
        let records = drawn_kept m S D [] limits log all in
        λ i. record {
          seats = seats_kept S D log i;
          cards = cards_kept S D log i;
          phase = phase_kept S D log i;
          locked = locked_kept S D log i;
          disclosures = disclosures_kept S D log i;
          entries = entries_kept S D m log all i;
          draws = draws_kept S D log i;
          end = λ d. (records d).end i;
          drawer = λ d. (records d).seat i;
          has_shared = λ d s. (records d).shared s i;
          shown = λ d. shown_kept m S D [] limits log all d i;
          taken = λ p. taken_kept m S D [] limits log all p i;
          has_disclosed = λ s. disclosed_kept m S D log s i;
        }

    log_kept : log_of (replay S D log) ≡ log
    log_kept =
        let t = replay S D log in
        log_held log all t (record { cards = cards_kept S D log; more_decks = []; more_orders = []; has_decks = sym (append-nil t.decks); has_orders = sym (append-nil t.orders) })

    told_kept : (first : List ℕ) → told_of (replay S D log) ≡ told_by S first log
    told_kept first =
        let t = replay S D log in
        let records = drawn_kept m S D first limits log all in
        let secrets : (s : ℕ) → found_secret t.cards t.disclosures t.orders s ≡ secret s log = λ s. ap (λ (n : ℕ). found_secret n t.disclosures t.orders s) (cards_kept S D log) ∙ secret_kept m S D log all s in
        λ i. record {
          key = λ s. (secrets s i).key;
          order = λ s. (secrets s i).order;
          drawer = λ d. (records d).seat i;
          value = λ d. (records d).chained i;
        }

    -- also under another cipher than that of the moves
    pub audit_kept : (n : CipherMeaning) → audit_answer n (replay S D log) ≡ audit_rules (view S D log) (verdict n D (told_by S (first_deck n D) log) log)
    audit_kept n =
        let t = replay S D log in
        λ i. audit_rules (view_kept i) (verdict n (cards_kept S D log i) (told_kept (first_deck n D) i) (log_kept i))
