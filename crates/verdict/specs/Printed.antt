-- How a finding is printed.
use Rattle.std.specs.Prelude.{ℕ, List, ◌++◌, codes, decimal}
use Rattle.verdict.specs.declared.Kind.{Kind}
use Rattle.verdict.specs.declared.Kind.TheVariants.{Lock, Share, Show}
use Rattle.verdict.specs.declared.Finding.{Finding}

abbrev pub kind_printed : Kind → List ℕ
kind_printed Lock = codes "lock"
kind_printed Share = codes "share"
kind_printed Show = codes "show"

abbrev pub finding_printed : Finding → List ℕ
finding_printed f = codes "entry " ++ (decimal f.entry ++ (codes " seat " ++ (decimal f.seat ++ (codes " " ++ kind_printed f.kind))))
