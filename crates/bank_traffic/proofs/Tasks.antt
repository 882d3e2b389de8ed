-- What each set of a traffic is to do.
use Rattle.std.proofs.Common.{refl, arith, ◌≡◌, ◌∙◌, ap, sym, subst, ℕ, zero, suc, List, [], ◌∷◌, ◌++◌, drop, map, length, All}
use Rattle.std.proofs.lemmas.List.{length-append, length-map, map-append}
use Rattle.std.proofs.lemmas.List.Elements.{All-cons, All-head, All-nil, All-push, All-tail}
use Rattle.set_events.specs.declared.config.SetConfig.{SetConfig}
use Rattle.bank_crew.specs.declared.plan.Plan.{Plan}
use Rattle.bank_crew.specs.Ends.{Task, counted}
use Rattle.bank_crew.specs.Jobs.{Duty}
use Rattle.bank_core.specs.Ends.{tasks_from}
use Rattle.bank_traffic.specs.declared.asked.Traffic.{Traffic}
use Rattle.bank_traffic.specs.Opening.{AreConfigs, AreTasks, IsPlan, IsTaskOf, OneEnd, each_set, method_of, numbers_below}
use Rattle.bank_traffic.specs.Noise.{all_noises, noise_on, set_noises}
use Rattle.bank_traffic.specs.declared.noise.Noise.{Noise}

so_many : (n : ℕ) → length (numbers_below n) ≡ n
so_many zero = refl
so_many (suc n) = omega (arith, length-append (numbers_below n) (n ∷ []), so_many n)

many_each : {X : Type 0} (n : ℕ) (x : X) → length (each_set n x) ≡ n
many_each zero x = refl
many_each (suc n) x = omega (arith, length-append (each_set n x) (x ∷ []), many_each n x)

all_each : {X : Type 0} (n : ℕ) (x : X) → All (λ y. y ≡ x) (each_set n x)
all_each zero x = All-nil (λ y. y ≡ x)
all_each (suc n) x = All-push (λ y. y ≡ x) (each_set n x) x (all_each n x) refl

configs_in : {L : Type 0} (users : ℕ) (plan : Plan) (configs : List SetConfig) (lines : List (List L)) (jobs : List (List Duty)) → map (λ (task : Task). task.config) (map counted (tasks_from users plan configs lines jobs)) ≡ configs
configs_in users plan [] lines jobs = refl
configs_in users plan (config ∷ configs) lines jobs = ap (λ (more : List SetConfig). config ∷ more) (configs_in users plan configs _ _)

each_task : {L : Type 0} (traffic : Traffic) (side : OneEnd) (users : ℕ) (plan : Plan) (configs : List SetConfig) (lines : List (List L)) (jobs : List (List Duty)) → users ≡ side.users → IsPlan traffic side.fail plan
    → length lines ≡ length configs → length jobs ≡ length configs → All (λ n. n ≡ traffic.links) (map length lines) → All (λ of_set. of_set ≡ side.jobs) jobs → All (IsTaskOf traffic side) (map counted (tasks_from users plan configs lines jobs))
each_task traffic side users plan [] lines jobs u p many_lines many_jobs all_lines all_jobs = All-nil (IsTaskOf traffic side)
each_task traffic side users plan (config ∷ configs) [] jobs u p many_lines many_jobs all_lines all_jobs = absurd (omega (arith, many_lines))
each_task traffic side users plan (config ∷ configs) (line ∷ lines) [] u p many_lines many_jobs all_lines all_jobs = absurd (omega (arith, many_jobs))
each_task traffic side users plan (config ∷ configs) (line ∷ lines) (job ∷ jobs) u p many_lines many_jobs all_lines all_jobs =
    All-cons (IsTaskOf traffic side) _ _
    (record {
      users_are = u;
      lines_are = All-head (λ n. n ≡ traffic.links) (length line) (map length lines) all_lines;
      jobs_are = All-head (λ of_set. of_set ≡ side.jobs) job jobs all_jobs;
      plan_is = p;
    })
    (each_task traffic side users plan configs lines jobs u p (omega (arith, many_lines)) (omega (arith, many_jobs)) (All-tail (λ n. n ≡ traffic.links) (length line) (map length lines) all_lines) (All-tail (λ of_set. of_set ≡ side.jobs) job jobs all_jobs))

-- each line has its noise, so each set has a line for each link
lines_noisy : {V X N : Type 0} (items : V → List X) (first : X → N) (vs : List V) → map length (map (λ v. map first (items v)) vs) ≡ map length (map items vs)
lines_noisy items first [] = refl
lines_noisy items first (v ∷ vs) = ap (λ (n : ℕ). n ∷ map length (map (λ v. map first (items v)) vs)) (length-map (items v) first) ∙ ap (λ (ns : List ℕ). length (items v) ∷ ns) (lines_noisy items first vs)

noises_each : {N : Type 0} (noises : ℕ → List N) (links : ℕ) → ((set : ℕ) → length (noises set) ≡ links) → (sets : ℕ) → map length (map noises (numbers_below sets)) ≡ each_set sets links
noises_each noises links each zero = refl
noises_each noises links each (suc n) =
    ap (map length) (map-append noises (numbers_below n) (n ∷ [])) ∙ map-append length (map noises (numbers_below n)) (noises n ∷ [])
    ∙ ap (λ (ns : List ℕ). ns ++ length (noises n) ∷ []) (noises_each noises links each n) ∙ ap (λ (k : ℕ). each_set n links ++ k ∷ []) (each n)

-- a bank of this end's configurations and users, whose sets all have these lines and jobs
pub tasks_of : {L V : Type 0} (traffic : Traffic) (side : OneEnd) (users : ℕ) (plan : Plan) (configs : List SetConfig) (items : V → List L) (first : L → Noise) (end : ℕ) (vs : List V) (jobs : List (List Duty)) → users ≡ side.users → IsPlan traffic side.fail plan
    → AreConfigs traffic.sets traffic.links side.opc side.dpc (method_of traffic.cyclic) configs → map (λ v. map first (items v)) vs ≡ all_noises traffic end → jobs ≡ each_set traffic.sets side.jobs
    → AreTasks traffic side (map counted (tasks_from users plan configs (map items vs) jobs)) × (map (λ task. task.lines) (tasks_from users plan configs (map items vs) jobs) ≡ map items vs)
tasks_of {L} traffic side users plan configs items first end vs jobs u p are noises jobs_are =
    let sets = traffic.sets in
    let links = traffic.links in
    let lines = map items vs in
    let many = ap length are.numbers in
    let all = length-map configs (λ (config : SetConfig). config.set) in
    let numbers = so_many sets in
    let each_link : (set : ℕ) → length (set_noises traffic end set) ≡ links = λ set. length-map (numbers_below links) (λ link. noise_on traffic set link end) ∙ so_many links in
    let counts : map length lines ≡ each_set sets links = sym (lines_noisy items first vs) ∙ ap (map length) noises ∙ noises_each (set_noises traffic end) links each_link sets in
    let many_lines : length lines ≡ length configs = omega (arith, length-map lines (λ (line : List L). length line), ap length counts, many_each sets links, many, all, numbers) in (
      record {
        configs = rw (configs_in users plan configs lines jobs) are;
        each = each_task traffic side users plan configs lines jobs u p many_lines (omega (arith, many, all, numbers, ap length jobs_are, many_each sets side.jobs))
            (subst (All (λ n. n ≡ links)) (sym counts) (all_each sets links)) (subst (All (λ of_set. of_set ≡ side.jobs)) (sym jobs_are) (all_each sets side.jobs));
      },
      lines_of_tasks users plan configs lines jobs many_lines,
    )
  where
    lines_of_tasks : {L : Type 0} (users : ℕ) (plan : Plan) (configs : List SetConfig) (lines : List (List L)) (jobs : List (List Duty)) → length lines ≡ length configs → map (λ task. task.lines) (tasks_from users plan configs lines jobs) ≡ lines
    lines_of_tasks users plan [] [] jobs many = refl
    lines_of_tasks users plan [] (line ∷ lines) jobs many = absurd (omega (arith, many))
    lines_of_tasks users plan (config ∷ configs) [] jobs many = absurd (omega (arith, many))
    lines_of_tasks users plan (config ∷ configs) (line ∷ lines) jobs many = ap (λ more. line ∷ more) (lines_of_tasks users plan configs lines (drop 1 jobs) (omega (arith, many)))
