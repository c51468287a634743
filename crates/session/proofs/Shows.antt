-- Cards shown: their draws are dealt, and at a clean table they are the cards held at the places drawn.
use Rattle.std.proofs.Common.{◌≡◌, ℕ, ◌<◌, ◌≤◌, [], ◌∷◌, ◌++◌, sym, ◌∙◌, subst, arith}
use Rattle.cipher.specs.Cipher.{CipherMeaning, CipherLaws}
use Rattle.table.specs.State.{show}
use Rattle.verdict.specs.Log.{Log, Drawn, draws, drawn, up_to}
use Rattle.verdict.specs.Honesty.{Told}
use Rattle.session.specs.Law.{CleanTable, Shown, told, held}
use Rattle.session.proofs.Accepted.{Accepted}
use Rattle.session.proofs.Among.{count_among}
use Rattle.session.proofs.Chains.{code_at, chain_opened, chain_under}
use Rattle.session.proofs.Dealt.{IsDealt, dealt_below, dealt_stays}
use Rattle.session.proofs.Decks.{card_below}
use Rattle.session.proofs.Entries.{part_honest}
use Rattle.session.proofs.Layers.{under_none}
use Rattle.session.proofs.Parts.{up_to_draws, up_to_part, accepted_up_to, accepted_earlier}
use Rattle.session.proofs.Places.{drawn_below}
use Rattle.session.proofs.Secrets.{Sound, disclosed_sound}
use Rattle.session.proofs.Sharing.{takers, takers_all, drawer_apart, drawn_fair}
use Rattle.session.proofs.Steps.{show_gives}

module _ (m : CipherMeaning) (S D : ℕ) (log : Log) (all : Accepted m S D log) (d c : ℕ) (shown : Shown m S D log d c) where
  -- the log when the card was shown, and what was accepted later
  abbrev then : Log
  then = show d c ∷ shown.before

  abbrev later : Log
  later = shown.stands.later

  accepted_all : Accepted m S D (later ++ then)
  accepted_all = subst (Accepted m S D) shown.stands.stands all

  accepted_then : Accepted m S D then
  accepted_then = accepted_earlier m S D later then accepted_all

  -- the card is one of the deck
  shown_below : c < D
  shown_below = accepted_then.0.card

  -- its draw is dealt
  pub shown_dealt : IsDealt S d log
  shown_dealt =
      let dealt_then = dealt_stays m S D d (show d c ∷ []) shown.before accepted_then accepted_then.0.dealt in
      subst (IsDealt S d) (sym shown.stands.stands) (dealt_stays m S D d later then accepted_all dealt_then)

module _ (m : CipherMeaning) (laws : CipherLaws m) (S D : ℕ) (some_seat : 1 ≤ S) (few : D ≤ 52)
    (log : Log) (all : Accepted m S D log) (clean : CleanTable m S D log) where
  -- what the log tells
  abbrev said : Told
  said = told m S D log

  -- the seats have disclosed lawful keys and orders
  disclosed : (s : ℕ) → s < S → Sound m D (said.key s) (said.order s)
  disclosed s seat = disclosed_sound m D S s log all (clean.disclosed s seat)

  module _ (d c : ℕ) (shown : Shown m S D log d c) where
    -- the draw of the card, and the chain value before the drawer's own lock is taken off
    abbrev its_draw : Drawn
    its_draw = drawn S d log

    abbrev its_chain : ℕ
    its_chain = said.value d

    its_number : d < draws log
    its_number = dealt_below S d log (shown_dealt m S D log all d c shown)

    its_place : its_draw.place < D
    its_place = drawn_below m S D d log all its_number

    -- the card's code is what is left with every lock taken off, the drawer's last
    code_shown : m.code c ≡ code_at m S said its_draw.place
    code_shown =
        let fair = drawn_fair m S D some_seat d log all in
        let dealt = shown_dealt m S D log all d c shown in
        let honest = clean.honest_all (show d c) shown.before shown.stands in
        let step = show_gives m (said.key its_draw.drawer) its_chain c honest in
        let accepted = accepted_up_to m S D d log all in
        let honest_part = part_honest m D said (up_to d log) log (up_to_part d log) clean.honest_all in
        let drawn_part : 1 ≤ draws (up_to d log) = omega (arith, up_to_draws d log its_number) in
        let rest = chain_under m laws S D few said disclosed (up_to d log) accepted honest_part drawn_part in
        let seat = fair.seats 0 (omega arith) in
        let apart = drawer_apart S its_draw fair in
        let opened = chain_opened m laws S D few said disclosed its_draw.drawer (m.code c) its_chain its_draw its_place seat apart step rest in
        let off = λ (s : ℕ) (h : s < S). count_among s (takers its_draw) (omega (arith, takers_all S its_draw fair dealt s h)) in
        opened ∙ under_none m said.key (code_at m S said its_draw.place) (takers its_draw) S off

    -- so it is the card held there
    pub shown_held : c ≡ held m S D log its_draw.place
    shown_held =
        let below = card_below m S D said disclosed S its_draw.place (omega arith) its_place in
        let deck = shown_below m S D log all d c shown in
        laws.codes_differ c (held m S D log its_draw.place) (omega arith) (omega arith) code_shown
