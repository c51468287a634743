-- The entries of a log and of a part of it, and their honesty.
use Rattle.std.proofs.Common.{◌≡◌, ℕ, true, [], ◌∷◌, ◌++◌, sym, refl, ap, ◌∙◌, append_assoc}
use Rattle.cipher.specs.Cipher.{CipherMeaning}
use Rattle.table.specs.State.{Move}
use Rattle.verdict.specs.Log.{Log}
use Rattle.verdict.specs.Honesty.{Told, honest}
use Rattle.session.specs.Law.{Entry, AllHonest}

-- every entry of the one is an entry of the other, with the same moves before it
abbrev pub Part : Log → Log → Type 0
Part part log = (x : Move) (before : Log) → Entry part x before → Entry log x before

-- the newest entry
pub newest : (x : Move) (log : Log) → Entry (x ∷ log) x log
newest x log = record { later = []; stands = refl }

-- what is left of a log without its newest moves is a part of it
pub earlier_part : (later log : Log) → Part log (later ++ log)
earlier_part later log x before e = record {
  later = later ++ e.later;
  stands = ap (λ (part : Log). later ++ part) e.stands ∙ sym (append_assoc later e.later (x ∷ before));
}

module _ (m : CipherMeaning) (D : ℕ) (told : Told) where
  -- a part of what is honest is honest
  pub part_honest : (part log : Log) → Part part log → AllHonest m D told log → AllHonest m D told part
  part_honest part log within all x before e = all x before (within x before e)

  pub rest_honest : (x : Move) (log : Log) → AllHonest m D told (x ∷ log) → AllHonest m D told log
  rest_honest x log = part_honest log (x ∷ log) (earlier_part (x ∷ []) log)

  pub newest_honest : (x : Move) (log : Log) → AllHonest m D told (x ∷ log) → honest m D told log x ≡ true
  newest_honest x log all = all x log (newest x log)

  -- a log with no entry, and one with one more
  pub none_honest : AllHonest m D told []
  none_honest x before e = by e.later e.stands
    where
      by : (later : Log) → [] ≡ later ++ (x ∷ before) → honest m D told before x ≡ true
      by [] stands = cc
      by (y ∷ later) stands = cc

  pub more_honest : (x : Move) (log : Log) → honest m D told log x ≡ true → AllHonest m D told log → AllHonest m D told (x ∷ log)
  more_honest x log fair all y before e = by e.later e.stands
    where
      by : (later : Log) → x ∷ log ≡ later ++ (y ∷ before) → honest m D told before y ≡ true
      by [] stands =
          let same : x ≡ y = cc in
          let behind : log ≡ before = cc in
          cc
      by (z ∷ later) stands = all y before (record { later = later; stands = cc })
