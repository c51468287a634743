-- A run on a table goes as the rules say of its log.
use Rattle.std.proofs.Common.{◌≡◌, ℕ, ◌+◌, ◌<◌, ◌≤◌, true, List, [], ◌∷◌, ◌++◌, map, length, get_or, take, Ok, Err, Result, sym, refl, ap, ◌∙◌, subst}
use Rattle.std.proofs.lemmas.List.{map_more, take_all}
use Rattle.cipher.specs.Cipher.{CipherMeaning}
use Rattle.table.specs.State.{Move, State}
use Rattle.table.specs.View.{View, view_of}
use Rattle.table.specs.Rules.{Answer, judged, judge, after, within_limits}
use Rattle.table.specs.declared.fault.TableFault.{TableFault}
use Rattle.verdict.specs.Log.{Log}
use Rattle.verdict.specs.Tables.{audit_answer}
use Rattle.session.specs.Runs.{Asked, move, audit, view, reply, joined, answer, with_call, answers, accepted}
use Rattle.session.specs.Steps.{asked_by, step_answer, step_after, Tells}
use Rattle.session.specs.declared.Step.{Step}
use Rattle.session.specs.declared.Reply.{Reply}
use Rattle.session.specs.declared.Reply.TheVariants.{Entered, Audited}
use Rattle.session.proofs.Accepted.{Accepted, run_accepted}
use Rattle.session.proofs.Replay.{replay}
use Rattle.session.proofs.Kept.{view_kept, audit_kept}

-- a state is judged as its view is
pub judge_viewed : (m : CipherMeaning) (t : State) (x : Move) → judge m t x ≡ judged m (view_of t) x
judge_viewed m t x = refl

module _ (m : CipherMeaning) (S D : ℕ) where
  -- one call more
  accepted_more : (calls : List Asked) (c : Asked) (log : Log) → accepted m S D log (calls ++ (c ∷ [])) ≡ with_call m S D (accepted m S D log calls) c
  accepted_more [] c log = refl
  accepted_more (b ∷ calls) c log = accepted_more calls c (with_call m S D log b)

  answers_more : (calls : List Asked) (c : Asked) (log : Log) → answers m S D log (calls ++ (c ∷ [])) ≡ answers m S D log calls ++ (answer m S D (accepted m S D log calls) c ∷ [])
  answers_more [] c log = refl
  answers_more (b ∷ calls) c log = ap (λ rs. answer m S D log b ∷ rs) (answers_more calls c (with_call m S D log b))

  module _ (limits : within_limits S D ≡ true) (log : Log) (all : Accepted m S D log) where
    judge_kept : (x : Move) → judge m (replay S D log) x ≡ judged m (view S D log) x
    judge_kept x = judge_viewed m (replay S D log) x ∙ ap (λ (v : View). judged m v x) (view_kept m S D limits log all)

    answer_kept : (c : Asked) → step_answer m (replay S D log) c ≡ answer m S D log c
    answer_kept (move x) = ap (reply Entered) (judge_kept x)
    answer_kept audit = ap (reply Audited) (audit_kept m S D limits log all m)

    made_kept : (a : Answer) (x : Move) → after a (replay S D log) x ≡ replay S D (joined a x log)
    made_kept (Ok n) x = refl
    made_kept (Err fault) x = refl

    after_kept : (c : Asked) → step_after m (replay S D log) c ≡ replay S D (with_call m S D log c)
    after_kept (move x) = ap (λ (a : Answer). after a (replay S D log) x) (judge_kept x) ∙ made_kept (judged m (view S D log) x) x
    after_kept audit = refl

  -- a run that has come this far
  pub record Ran (calls : List Asked) (replies : List (Result Reply TableFault)) (t : State) : Type 0 where
    pub stands : t ≡ replay S D (accepted m S D [] calls)
    pub answered : replies ≡ answers m S D [] calls

  ran_more : within_limits S D ≡ true → (calls : List Asked) (replies : List (Result Reply TableFault)) (t u : State) (c : Asked) (r : Result Reply TableFault)
      → Ran calls replies t → r ≡ step_answer m t c → u ≡ step_after m t c → Ran (calls ++ (c ∷ [])) (replies ++ (r ∷ [])) u
  ran_more limits calls replies t u c r ran answered made =
      let log = accepted m S D [] calls in
      let all = run_accepted m S D calls [] tt in
      record {
        stands = made ∙ ap (λ s. step_after m s c) ran.stands ∙ after_kept limits log all c ∙ ap (replay S D) (sym (accepted_more calls c []));
        answered =
            ap (λ (a : Result Reply TableFault). replies ++ (a ∷ [])) (answered ∙ ap (λ s. step_answer m s c) ran.stands ∙ answer_kept limits log all c)
            ∙ ap (λ rs. rs ++ (answer m S D log c ∷ [])) ran.answered
            ∙ sym (answers_more calls c []);
      }

  -- the step x of a script is made
  pub ran_next : within_limits S D ≡ true → (steps : List Step) (i : ℕ) (x : Step) (replies then : List (Result Reply TableFault)) (t u : State) (r : Result Reply TableFault)
      → i < length steps → x ≡ get_or steps i x → Ran (map asked_by (take i steps)) replies t → r ≡ step_answer m t (asked_by x) → u ≡ step_after m t (asked_by x)
      → then ≡ replies ++ (r ∷ []) → Ran (map asked_by (take (i + 1) steps)) then u
  ran_next limits steps i x replies then t u r below is ran answered made pushed =
      let calls = map asked_by (take i steps) in
      let one_more = map_more asked_by steps i x below ∙ ap (λ (y : Step). calls ++ (asked_by y ∷ [])) (sym is) in
      subst (λ cs. Ran cs then u) (sym one_more) (subst (λ rs. Ran (calls ++ (asked_by x ∷ [])) rs u) (sym pushed) (ran_more limits calls replies t u (asked_by x) r ran answered made))

  -- a script whose steps were all made, and what the table tells of them
  pub ran_whole : within_limits S D ≡ true → (steps gone : List Step) → gone ≡ steps → (i : ℕ) (replies : List (Result Reply TableFault)) (t : State)
      → length gone ≤ i → Ran (map asked_by (take i gone)) replies t
      → (replies ≡ answers m S D [] (map asked_by steps)) × Tells t S D (accepted m S D [] (map asked_by steps))
  ran_whole limits steps gone same i replies t past so_far =
      let calls = map asked_by steps in
      let log = accepted m S D [] calls in
      let all = run_accepted m S D calls [] tt in
      let ran = subst (λ ys. Ran (map asked_by ys) replies t) (take_all i gone past ∙ same) so_far in (
        ran.answered,
        record {
          shows = ap view_of ran.stands ∙ view_kept m S D limits log all;
          audited = λ n. ap (λ s. reply Audited (audit_answer n s)) ran.stands ∙ ap (reply Audited) (audit_kept m S D limits log all n);
        },
      )
