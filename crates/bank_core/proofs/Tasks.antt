-- The tasks of a bank's sets, one after another.
use Rattle.std.proofs.Common.{◌≡◌, ◌∙◌, ap, sym, subst, ℕ, List, [], ◌∷◌, ◌++◌, append_assoc, map, drop, All}
use Rattle.std.proofs.lemmas.List.{map-append}
use Rattle.std.proofs.lemmas.List.Elements.{All-push}
use Rattle.set_events.specs.declared.config.SetConfig.{SetConfig}
use Rattle.bank_crew.specs.declared.plan.Plan.{Plan}
use Rattle.bank_crew.specs.Ends.{LinedTask, lined_task}
use Rattle.bank_crew.specs.Jobs.{Duty, first_or}
use Rattle.bank_core.specs.Ends.{tasks_from}

-- the first set's, and those of the rest
pub first_task : {L : Type 0} (users users' : ℕ) → users' ≡ users → (plan : Plan) (config : SetConfig) (configs all : List SetConfig) (lines lines' : List (List L)) (jobs jobs' : List (List Duty)) (line : List L) (job : List Duty) → all ≡ config ∷ configs → first_or [] lines ≡ line → drop 1 lines ≡ lines'
    → first_or [] jobs ≡ job → drop 1 jobs ≡ jobs' → tasks_from users plan all lines jobs ≡ lined_task config users' line job plan ∷ tasks_from users plan configs lines' jobs'
first_task {L} users users' same plan config configs all lines lines' jobs jobs' line job from l ls j js =
    ap (λ (cs : List SetConfig). tasks_from users plan cs lines jobs) from
    ∙ ap (λ (n : List L). lined_task config users n (first_or [] jobs) plan ∷ tasks_from users plan configs (drop 1 lines) (drop 1 jobs)) l
    ∙ ap (λ (ns : List (List L)). lined_task config users line (first_or [] jobs) plan ∷ tasks_from users plan configs ns (drop 1 jobs)) ls
    ∙ ap (λ (d : List Duty). lined_task config users line d plan ∷ tasks_from users plan configs lines' (drop 1 jobs)) j
    ∙ ap (λ (ds : List (List Duty)). lined_task config users line job plan ∷ tasks_from users plan configs lines' ds) js
    ∙ ap (λ (u : ℕ). lined_task config u line job plan ∷ tasks_from users plan configs lines' jobs') (sym same)

-- one set's work more was put
pub put_one : {L W : Type 0} (task : W → LinedTask L) (works works' : List W) (work : W) (rest whole left : List (LinedTask L)) → works' ≡ works ++ work ∷ [] → left ≡ task work ∷ rest → map task works ++ left ≡ whole → map task works' ++ rest ≡ whole
put_one {L} {W} task works works' work rest whole left more left_is whole_is =
    ap (λ (ws : List W). map task ws ++ rest) more ∙ ap (λ (ts : List (LinedTask L)). ts ++ rest) (map-append task works (work ∷ []))
    ∙ append_assoc (map task works) (task work ∷ []) rest ∙ ap (λ (ts : List (LinedTask L)). map task works ++ ts) (sym left_is) ∙ whole_is

-- what holds of all works and of one more
pub all_pushed : {W : Type 0} (P : W → Type 0) (works works' : List W) (work : W) → works' ≡ works ++ work ∷ [] → All P works → P work → All P works'
all_pushed P works works' work more all p = subst (All P) (sym more) (All-push P works work all p)
