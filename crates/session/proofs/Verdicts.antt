-- What an audit says, by the honesty of the entries.
use Rattle.std.proofs.Common.{◌≡◌, ℕ, ◌≤◌, Bool, true, false, cond, [], ◌∷◌, Ok, Some, None, sym, refl, ap, ◌∙◌, arith}
use Rattle.std.proofs.lemmas.Bool.{le-leb}
use Rattle.cipher.specs.Cipher.{CipherMeaning}
use Rattle.table.specs.State.{Move, lock, draw, share, abandon, close, show, disclose}
use Rattle.verdict.specs.Log.{Log, entries, disclosures}
use Rattle.verdict.specs.Honesty.{Told, Verdict, dishonest, honest, accused, earlier, finding, verdict}
use Rattle.verdict.specs.declared.Kind.{Kind}
use Rattle.verdict.specs.declared.Kind.TheVariants.{Lock, Share, Show}
use Rattle.session.specs.Law.{Entry, AllHonest, AllDisclosed, FirstDishonest, told}
use Rattle.session.specs.Runs.{audit, answer}
use Rattle.session.specs.declared.Reply.TheVariants.{Audited}
use Rattle.session.proofs.Accepted.{Accepted}
use Rattle.session.proofs.Entries.{Part, newest, earlier_part, rest_honest, newest_honest, none_honest, more_honest}
use Rattle.session.proofs.Phases.{disclosed_audit}
use Rattle.session.proofs.Secrets.{disclosed_enough}

-- a finding that accuses no one
none_accused : (b : Bool) (entry seat : ℕ) (kind : Kind) → cond b None (dishonest entry seat kind) ≡ None → b ≡ true
none_accused true entry seat kind clean = refl
none_accused false entry seat kind clean = cc

-- a finding that accuses
one_accused : (b : Bool) (v : Verdict) (entry seat : ℕ) (kind : Kind)
    → cond b None v ≡ dishonest entry seat kind → (b ≡ false) × (v ≡ dishonest entry seat kind)
one_accused true v entry seat kind found = (cc, cc)
one_accused false v entry seat kind found = (refl, found)

-- two findings are none together
earlier_none : (v w : Verdict) → earlier v w ≡ None → (v ≡ None) × (w ≡ None)
earlier_none None w none = (refl, none)
earlier_none (Some found) w none = (cc, cc)

module _ (m : CipherMeaning) (D : ℕ) (told : Told) where
  -- an entry that is not accused is honest
  finding_clean : (before : Log) (x : Move) → finding m D told before x ≡ None → honest m D told before x ≡ true
  finding_clean before (lock s deck) clean = none_accused (honest m D told before (lock s deck)) (entries before) s Lock clean
  finding_clean before (draw s p) clean = refl
  finding_clean before (share s v) clean = none_accused (honest m D told before (share s v)) (entries before) s Share clean
  finding_clean before abandon clean = refl
  finding_clean before close clean = refl
  finding_clean before (show d c) clean = none_accused (honest m D told before (show d c)) (entries before) (told.drawer d) Show clean
  finding_clean before (disclose s k o) clean = refl

  -- a clean verdict tells that every entry is honest
  verdict_clean : (log : Log) → verdict m D told log ≡ None → AllHonest m D told log
  verdict_clean [] clean = none_honest m D told
  verdict_clean (x ∷ log) clean =
      let both = earlier_none (verdict m D told log) (finding m D told log x) clean in
      more_honest m D told x log (finding_clean log x both.1) (verdict_clean log both.0)

  -- where every entry is honest, the verdict is clean
  clean_verdict : (log : Log) → AllHonest m D told log → verdict m D told log ≡ None
  clean_verdict [] fair = refl
  clean_verdict (x ∷ log) fair =
      let rest = clean_verdict log (rest_honest m D told x log fair) in
      let here = newest_honest m D told x log fair in
      cc

  -- the number of the entry that is named
  entry_in : Verdict → ℕ
  entry_in None = 0
  entry_in (Some found) = found.entry

  -- an accusation carries the number of its entry
  accused_numbered : (n : ℕ) (x : Move) (entry seat : ℕ) (kind : Kind) → accused m D told n x ≡ dishonest entry seat kind → entry ≡ n
  unfolding entry_in
  accused_numbered n (lock s deck) entry seat kind named = sym (ap entry_in named)
  accused_numbered n (draw s p) entry seat kind named = cc
  accused_numbered n (share s v) entry seat kind named = sym (ap entry_in named)
  accused_numbered n abandon entry seat kind named = cc
  accused_numbered n close entry seat kind named = cc
  accused_numbered n (show d c) entry seat kind named = sym (ap entry_in named)
  accused_numbered n (disclose s k o) entry seat kind named = cc

module _ (m : CipherMeaning) (S D : ℕ) (log : Log) where
  -- what the whole log tells, whichever part is looked at
  abbrev said : Told
  said = told m S D log

  -- an entry that is accused, and none before it
  newest_named : (x : Move) (before : Log) → Entry log x before → (entry seat : ℕ) (kind : Kind)
      → verdict m D said before ≡ None → finding m D said before x ≡ dishonest entry seat kind → FirstDishonest m S D log entry seat kind
  newest_named x before stands entry seat kind clean found =
      let here = one_accused (honest m D said before x) (accused m D said (entries before) x) entry seat kind found in
      let number = accused_numbered m D said (entries before) x entry seat kind here.1 in
      record {
        x = x;
        before = before;
        stands = stands;
        not_honest = here.0;
        none_earlier = verdict_clean m D said before clean;
        numbered = number;
        named = ap (λ (n : ℕ). accused m D said n x) number ∙ here.1;
      }

  -- a verdict on a part of the log that is not clean names the first entry that is not honest
  named : (part : Log) → Part part log → (entry seat : ℕ) (kind : Kind)
      → verdict m D said part ≡ dishonest entry seat kind → FirstDishonest m S D log entry seat kind
  named [] within entry seat kind found = let never : ◌≡◌ {A = ℕ} 0 1 = cc in absurd (omega arith)
  named (x ∷ before) within entry seat kind found =
      by (verdict m D said before) refl found (named before (λ y b e. within y b (earlier_part (x ∷ []) before y b e)) entry seat kind)
    where
      by : (v : Verdict) → verdict m D said before ≡ v
          → earlier v (finding m D said before x) ≡ dishonest entry seat kind
          → (verdict m D said before ≡ dishonest entry seat kind → FirstDishonest m S D log entry seat kind)
          → FirstDishonest m S D log entry seat kind
      by None is later rest = newest_named x before (within x before (newest x before)) entry seat kind is later
      by (Some found) is later rest = rest (is ∙ later)

  -- the moves may have been accepted under another cipher
  module _ (n : CipherMeaning) (all : Accepted n S D log) (some_seat : 1 ≤ S) (disclosed : AllDisclosed m S D log) where
    -- once all have disclosed, an audit is answered by the verdict
    answered_by : (v : Verdict) → verdict m D said log ≡ v → answer m S D log audit ≡ Ok (Audited v)
    answered_by v is =
        let enough = disclosed_enough S log disclosed in
        let phase = disclosed_audit n S D log all (omega arith) in
        let ready = le-leb S (disclosures log) enough in
        cc

    -- it is clean exactly when every entry is honest
    pub audit_clean : answer m S D log audit ≡ Ok (Audited None) → AllHonest m D said log
    audit_clean clean =
        let answered = answered_by (verdict m D said log) refl in
        verdict_clean m D said log (cc)

    pub clean_audit : AllHonest m D said log → answer m S D log audit ≡ Ok (Audited None)
    clean_audit fair = answered_by None (clean_verdict m D said log fair)

    -- it accuses a seat of an entry
    abbrev Accuses : ℕ → ℕ → Kind → Type 0
    Accuses entry seat kind = answer m S D log audit ≡ Ok (Audited (dishonest entry seat kind))

    -- an audit that is not clean names the first entry that is not honest
    pub audit_names : (answer m S D log audit ≡ Ok (Audited None) → ⊥)
        → (entry : ℕ) × (seat : ℕ) × (kind : Kind) × Accuses entry seat kind × FirstDishonest m S D log entry seat kind
    audit_names unclean = by (verdict m D said log) refl
      where
        by : (v : Verdict) → verdict m D said log ≡ v
            → (entry : ℕ) × (seat : ℕ) × (kind : Kind) × Accuses entry seat kind × FirstDishonest m S D log entry seat kind
        by None is = absurd (unclean (answered_by None is))
        by (Some found) is =
            (found.entry, found.seat, found.kind, answered_by (Some found) is, named log (λ x b e. e) found.entry found.seat found.kind is)
