-- A step made on a table, and the run of a script.
use Rattle.std.specs.Prelude.{◌≡◌, ℕ, true, cond, List, [], map, vec_items, Option, Result, Vec, MatchResult}
use Rattle.cipher.specs.Cipher.{CipherMeaning}
use Rattle.table.specs.State.{State}
use Rattle.table.specs.Rules.{judge, after, within_limits}
use Rattle.table.specs.View.{view_of}
use Rattle.table.specs.Model.{state_of}
use Rattle.table.specs.Calls.{move_of}
use Rattle.table.specs.declared.table.Table.{Table}
use Rattle.table.specs.declared.fault.TableFault.{TableFault}
use Rattle.table.specs.declared.fault.TableFault.TheVariants.{NoMemory, OutsideLimits}
use Rattle.verdict.specs.Log.{Log}
use Rattle.verdict.specs.Tables.{audit_answer}
use Rattle.verdict.specs.declared.Finding.{Finding}
use Rattle.session.specs.Runs.{Asked, move, audit, view, reply, answer, answers, accepted}
use Rattle.session.specs.declared.Reply.{Reply}
use Rattle.session.specs.declared.Reply.TheVariants.{Entered, Audited}
use Rattle.session.specs.declared.Step.{Step}
use Rattle.session.specs.declared.Step.TheVariants as step
use Rattle.session.specs.declared.Script.{Script}

abbrev pub asked_by : Step → Asked
asked_by (step.Move call) = move (move_of call)
asked_by step.Audit = audit

-- the calls of a script
abbrev pub calls_of : Script → List Asked
calls_of script = map asked_by (vec_items script.steps)

abbrev pub step_answer : CipherMeaning → State → Asked → Result Reply TableFault
step_answer m t (move x) = reply Entered (judge m t x)
step_answer m t audit = reply Audited (audit_answer m t)

abbrev pub step_after : CipherMeaning → State → Asked → State
step_after m t (move x) = after (judge m t x) t x
step_after m t audit = t

-- what the run of a script answers: each call's answer by the rules, or that there was no table
abbrev pub RunAnswer : {Heap : Type 0} → CipherMeaning → Script → Result (Vec (Result Reply TableFault) Heap) TableFault → Type 0
RunAnswer m script r =
    MatchResult r
    (λ replies. (within_limits script.seats script.cards ≡ true) × (vec_items replies ≡ answers m script.seats script.cards [] (calls_of script)))
    (λ e. e ≡ cond (within_limits script.seats script.cards) NoMemory OutsideLimits)

-- a table that tells of these moves: what the rules look at, and what an audit under any cipher finds
pub record Tells (t : State) (S D : ℕ) (log : Log) : Type 0 where
  pub shows : view_of t ≡ view S D log
  pub audited : (n : CipherMeaning) → reply Audited (audit_answer n t) ≡ answer n S D log audit

-- a table on which a script was made, and the answers
abbrev pub Played : {Heap : Type 0} → CipherMeaning → Script → Result (Table × Vec (Result Reply TableFault) Heap) TableFault → Type 0
Played m script r =
    MatchResult r
    (λ p.
    (within_limits script.seats script.cards ≡ true)
    × (vec_items p.1 ≡ answers m script.seats script.cards [] (calls_of script))
    × Tells (state_of p.0) script.seats script.cards (accepted m script.seats script.cards [] (calls_of script)))
    (λ e. e ≡ cond (within_limits script.seats script.cards) NoMemory OutsideLimits)

-- what an audit under a cipher n finds after a script was made under m
abbrev pub AuditAnswer : CipherMeaning → CipherMeaning → Script → Result (Result (Option Finding) TableFault) TableFault → Type 0
AuditAnswer m n script r =
    MatchResult r
    (λ found.
    (within_limits script.seats script.cards ≡ true)
    × (reply Audited found ≡ answer n script.seats script.cards (accepted m script.seats script.cards [] (calls_of script)) audit))
    (λ e. e ≡ cond (within_limits script.seats script.cards) NoMemory OutsideLimits)
