-- What threads promise, one after another, and what comes of it.
use Rattle.std.proofs.Common.{refl, arith, ◌≡◌, ◌∙◌, ap, sym, subst, ◌+◌, ◌<◌, ◌≤◌, inl, inr, true, ℕ, zero, suc, List, [], ◌∷◌, ◌++◌, map, length, drop, All, Option, None, Result, Err}
use Rattle.std.specs.Option.{option_to_list, unwrap_or}
use Rattle.std.specs.List.{AllZip}
use Rattle.std.proofs.lemmas.List.{append_assoc, length-append, length-map, map-append}
use Rattle.std.proofs.lemmas.Bool.{cases_lt}
use Rattle.std.proofs.lemmas.List.Elements.{All-cons, All-head, All-nil, All-tail}
use Rattle.set_events.specs.declared.books.Books.{Books}
use Rattle.set_events.specs.declared.event.Actor.{Actor}
use Rattle.set_events.specs.declared.event.Actor.TheVariants.{User, Terminal}
use Rattle.set_events.specs.declared.history.Entry.{Entry}
use Rattle.set_ledger.specs.Ending.{IsFaithful}
use Rattle.set_ledger.specs.Seats.{SeatState, new_seat, new_seats}
use Rattle.bank_crew.specs.declared.crew.Ended.{Ended}
use Rattle.bank_crew.specs.declared.fault.UserFault.{UserFault}
use Rattle.bank_crew.specs.declared.plan.Job.{Job}
use Rattle.bank_crew.specs.declared.plan.Plan.{Plan}
use Rattle.bank_crew.specs.declared.terminal.ShiftOf.{ShiftOf}
use Rattle.link_term.specs.declared.fault.TermFault.{TermFault}
use Rattle.bank_crew.specs.declared.report.ShiftReport.{ShiftReport}
use Rattle.bank_crew.specs.declared.report.UserReport.{UserReport}
use Rattle.bank_crew.specs.declared.user.JobOf.{JobOf}
use Rattle.bank_crew.specs.Jobs.{DidJobs, DoesJob, Duty, duty_of, first_or, no_duty}
use Rattle.bank_crew.specs.Keeping.{AreJobs, AreKept, AreNew, AreShifts, KeepsJob, KeepsShift}
use Rattle.bank_crew.specs.Seats.{AreAll, AreCalls}
use Rattle.bank_crew.specs.Shifts.{DidShifts, DidShiftsOver, DoesShiftOver}
use Rattle.line_ring.specs.declared.line.Line as line_end
use Rattle.bank_crew.proofs.Taking.{drop_one, one_dropped, taken}

-- NEW SEATS are numbered from 0.
new_more : (actor : ℕ → Actor) (n : ℕ) (seats : List SeatState) (m : ℕ) → m ≡ n + length seats → AreNew actor n seats → AreNew actor n (seats ++ new_seat (actor m) ∷ [])
new_more actor n [] m e are = (ap (λ (k : ℕ). new_seat (actor k)) (omega (arith, e)), tt)
new_more actor n (seat ∷ seats) m e are = (are.0, new_more actor (suc n) seats m (omega (arith, e)) are.1)

pub many_new : (actor : ℕ → Actor) (n : ℕ) → length (new_seats actor n) ≡ n
many_new actor zero = refl
many_new actor (suc n) = omega (arith, many_new actor n, length-append (new_seats actor n) (new_seat (actor n) ∷ []))

pub are_new : (actor : ℕ → Actor) (n : ℕ) → AreNew actor 0 (new_seats actor n)
are_new actor zero = tt
are_new actor (suc n) = new_more actor 0 (new_seats actor n) n (omega (arith, many_new actor n)) (are_new actor n)

-- THREADS that were waited for, one more.
pub each_more : {P E : Type 0} (kept : P → E → Type 0) (ps : List P) (p : P) (es : List E) (e : E) → AllZip kept ps es → kept p e → AllZip kept (ps ++ p ∷ []) (es ++ e ∷ [])
each_more kept [] p [] e each is = (is, tt)
each_more kept [] p (x ∷ es) e each is = absurd each
each_more kept (q ∷ ps) p [] e each is = absurd each
each_more kept (q ∷ ps) p (x ∷ es) e each is = (each.0, each_more kept ps p es e each.1 is)

pub kept_more : {P S T : Type 0} (kept : P → Ended S T → Type 0) (ps : List P) (p : P) (end : Ended S T) (seats seats' : List S) (told told' : List T) → AreKept kept ps seats told → kept p end
    → seats' ≡ seats ++ end.seat ∷ [] → told' ≡ told ++ end.told ∷ [] → AreKept kept (ps ++ p ∷ []) seats' told'
kept_more {P} {S} {T} kept ps p end seats seats' told told' are is more_seats more_told = record {
  ends = are.ends ++ end ∷ [];
  each = each_more kept ps p are.ends end are.each is;
  seats_are = more_seats ∙ ap (λ (xs : List S). xs ++ end.seat ∷ []) are.seats_are ∙ sym (map-append (λ (e : Ended S T). e.seat) are.ends (end ∷ []));
  told_are = more_told ∙ ap (λ (xs : List T). xs ++ end.told ∷ []) are.told_are ∙ sym (map-append (λ (e : Ended S T). e.told) are.ends (end ∷ []));
}

pub kept_on : {H P S T : Type 0} (of : H → P) (kept : P → Ended S T → Type 0) (hs : List H) (h : H) (end : Ended S T) (seats more seats' : List S) (told more_told told' : List T) → AreKept kept (map of hs) seats told → kept (of h) end
    → more ≡ seats → more_told ≡ told → seats' ≡ more ++ end.seat ∷ [] → told' ≡ more_told ++ end.told ∷ [] → AreKept kept (map of (hs ++ h ∷ [])) seats' told'
kept_on {H} {P} {S} {T} of kept hs h end seats more seats' told more_told told' are is same same_told pushed pushed_told =
    subst (λ (ps : List P). AreKept kept ps seats' told') (sym (map-append of hs (h ∷ [])))
    (kept_more kept (map of hs) (of h) end seats seats' told told' are is (pushed ∙ ap (λ (xs : List S). xs ++ end.seat ∷ []) same) (pushed_told ∙ ap (λ (xs : List T). xs ++ end.told ∷ []) same_told))

-- THREADS that were started, one more.
pub jobs_more : (user : ℕ) (jobs : List Duty) (ps : List JobOf) (p : JobOf) → p.user ≡ user + length ps → duty_of p.job.value ≡ first_or no_duty (drop (length ps) jobs) → AreJobs user jobs ps → AreJobs user jobs (ps ++ p ∷ [])
jobs_more user jobs [] p number duty are = ((omega (arith, number), duty), tt)
jobs_more user jobs (q ∷ ps) p number duty are =
    (are.0, jobs_more (suc user) (drop 1 jobs) ps p (omega (arith, number)) (duty ∙ ap (first_or no_duty) (sym (drop_one (length ps) jobs))) are.1)

-- a user's thread was started: its seat is the next, and its job
pub started_user : (all : List Duty) (ps ps' : List JobOf) (p : JobOf) (n n' : ℕ) (seats seats' : List SeatState) (seat : SeatState) (jobs jobs' : List Job) (next : Option Job) (job none : Job)
    → AreNew User n seats → seats ≡ seat ∷ seats' → AreJobs 0 all ps → length ps ≡ n → ps' ≡ ps ++ p ∷ [] → length ps' ≡ n' → seat.who ≡ User p.user → p.job.value ≡ job
    → map duty_of jobs ≡ drop n all → jobs ≡ option_to_list next ++ jobs' → (next ≡ None → length jobs ≡ 0) → job ≡ unwrap_or next none → duty_of none ≡ no_duty
    → AreNew User n' seats' × AreJobs 0 all ps' × (map duty_of jobs' ≡ drop n' all) × (n' ≡ suc n)
started_user all ps ps' p n n' seats seats' seat jobs jobs' next job none are is are_jobs many more many' who value duties from over job_is none_is =
    let new = subst (AreNew User n) is are in
    let same : User p.user ≡ User n = sym who ∙ ap (λ (s : SeatState). s.who) new.0 in
    let number : p.user ≡ n = cc same in
    let one = taken duty_of no_duty jobs next jobs' none job from over job_is none_is in
    let next_is : n' ≡ suc n = omega (arith, many, many', ap length more, length-append ps (p ∷ [])) in
    let duty : duty_of p.job.value ≡ first_or no_duty (drop (length ps) all) =
    ap duty_of value ∙ sym one.0 ∙ ap (first_or no_duty) duties ∙ ap (λ (k : ℕ). first_or no_duty (drop k all)) (sym many) in (
      subst (λ (k : ℕ). AreNew User k seats') (sym next_is) new.1,
      subst (AreJobs 0 all) (sym more) (jobs_more 0 all ps p (omega (arith, number, many)) duty are_jobs),
      sym one.1 ∙ ap (drop 1) duties ∙ one_dropped n all ∙ ap (λ (k : ℕ). drop k all) (sym next_is),
      next_is,
    )

-- WHAT CAME OF THEM, in the history: all that was asked at a seat are its calls before the base, and then those of the
-- history.
all_calls : (who : Actor) (seat : SeatState) (all : List Entry) (books : Books) (history : List Entry) → seat.who ≡ who → AreAll seat all → IsFaithful books history seat → AreCalls who books history all
all_calls who seat all books history same are is =
    let gone = are.many in
    let stood = is.all_before in
    subst (λ (w : Actor). AreCalls w books history all) same
    (record {
      before = are.forgotten ++ is.before;
      receipts_are = are.all_are ∙ ap (λ (rest : List Entry). are.forgotten ++ rest) is.receipts_are ∙ sym (append_assoc are.forgotten is.before _);
      all_before = omega (arith, gone, stood, length-append are.forgotten is.before);
    })

did_one : (user number : ℕ) (seat : SeatState) (duty duty' : Duty) (told : Result UserReport UserFault) (books : Books) (history : List Entry) → number ≡ user → seat.who ≡ User number → duty ≡ duty' → IsFaithful books history seat
    → (all : List Entry) × AreAll seat all × DoesJob (User number) duty told all → (calls : List Entry) × AreCalls (User user) books history calls × DoesJob (User user) duty' told calls
did_one user number seat duty duty' told books history same is duties faithful does = (
  does.0,
  all_calls (User user) seat does.0 books history (is ∙ ap User same) does.1 faithful,
  subst (λ (n : ℕ). DoesJob (User n) duty' told does.0) same (subst (λ (d : Duty). DoesJob (User number) d told does.0) duties does.2),
)

pub did_jobs : (user : ℕ) (jobs : List Duty) (ps : List JobOf) (ends : List (Ended SeatState (Result UserReport UserFault))) (books : Books) (history : List Entry) → AreJobs user jobs ps → AllZip KeepsJob ps ends
    → All (IsFaithful books history) (map (λ (end : Ended SeatState (Result UserReport UserFault)). end.seat) ends) → DidJobs user jobs (map (λ (end : Ended SeatState (Result UserReport UserFault)). end.told) ends) books history
did_jobs user jobs [] [] books history are each faithful = tt
did_jobs user jobs [] (end ∷ ends) books history are each faithful = absurd each
did_jobs user jobs (p ∷ ps) [] books history are each faithful = absurd each
did_jobs user jobs (p ∷ ps) (end ∷ ends) books history are each faithful = (
  did_one user p.user end.seat (duty_of p.job.value) (first_or no_duty jobs) end.told books history are.0.0 each.0.0 are.0.1 (All-head (IsFaithful books history) end.seat _ faithful) each.0.1,
  did_jobs (suc user) (drop 1 jobs) ps ends books history are.1 each.1 (All-tail (IsFaithful books history) end.seat _ faithful),
)

-- WHO TELLS OF A FULL HISTORY tells the truth.
pub told_truth : {P R F : Type 0} (kept : P → Ended SeatState (Result R F) → Type 0) (exhausted : F) (full : Type 0) → ((p : P) (end : Ended SeatState (Result R F)) → kept p end → end.told ≡ Err exhausted → end.seat.full ≡ true)
    → (ps : List P) (ends : List (Ended SeatState (Result R F))) → AllZip kept ps ends → All (λ (seat : SeatState). seat.full ≡ true → full) (map (λ (end : Ended SeatState (Result R F)). end.seat) ends)
    → All (λ (told : Result R F). told ≡ Err exhausted → full) (map (λ (end : Ended SeatState (Result R F)). end.told) ends)
told_truth kept exhausted full keeps [] [] each all = All-nil (λ told. told ≡ Err exhausted → full)
told_truth kept exhausted full keeps [] (end ∷ ends) each all = absurd each
told_truth kept exhausted full keeps (p ∷ ps) [] each all = absurd each
told_truth kept exhausted full keeps (p ∷ ps) (end ∷ ends) each all =
    All-cons (λ told. told ≡ Err exhausted → full) end.told _ (λ told. All-head (λ (seat : SeatState). seat.full ≡ true → full) end.seat _ all (keeps p end each.0 told))
    (told_truth kept exhausted full keeps ps ends each.1 (All-tail (λ (seat : SeatState). seat.full ≡ true → full) end.seat _ all))

-- as many were waited for as were started
pub many_kept : {P S T : Type 0} (kept : P → Ended S T → Type 0) (ps : List P) (seats : List S) (told : List T) → AreKept kept ps seats told → length told ≡ length ps
many_kept {P} {S} {T} kept ps seats told are =
    omega (arith, ap length are.told_are, length-map are.ends (λ (e : Ended S T). e.told), many_each kept ps are.ends are.each)
  where
    many_each : {E : Type 0} (kept : P → E → Type 0) (ps : List P) (es : List E) → AllZip kept ps es → length es ≡ length ps
    many_each kept [] [] each = refl
    many_each kept [] (e ∷ es) each = absurd each
    many_each kept (p ∷ ps) [] each = absurd each
    many_each kept (p ∷ ps) (e ∷ es) each = omega (arith, many_each kept ps es each.1)

-- A TERMINAL'S THREAD was started: its seat is the next.
shifts_more : {L : Type 0} (link : ℕ) (plan : Plan) (lines left : List L) (line : L) (ps : List (ShiftOf L)) (p : ShiftOf L) → p.link ≡ link + length ps → p.plan ≡ plan → p.line.value ≡ line → drop (length ps) lines ≡ line ∷ left
    → AreShifts link plan lines ps → AreShifts link plan lines (ps ++ p ∷ [])
shifts_more link plan [] left line [] p number same own next are = absurd cc
shifts_more link plan (first ∷ lines) left line [] p number same own next are = let front : first ≡ line = cc next in ((omega (arith, number), same, own ∙ sym front), tt)
shifts_more link plan [] left line (q ∷ ps) p number same own next are = absurd are
shifts_more link plan (first ∷ lines) left line (q ∷ ps) p number same own next are = (are.0, shifts_more (suc link) plan lines left line ps p (omega (arith, number)) same own next are.1)

pub started_terminal : {L : Type 0} (plan : Plan) (lines left rest : List L) (line : L) (ps ps' : List (ShiftOf L)) (p : ShiftOf L) (n n' : ℕ) (seats seats' : List SeatState) (seat : SeatState)
    → AreNew Terminal n seats → seats ≡ seat ∷ seats' → AreShifts 0 plan lines ps → length ps ≡ n → ps' ≡ ps ++ p ∷ [] → length ps' ≡ n' → seat.who ≡ Terminal p.link → p.plan ≡ plan
    → p.line.value ≡ line → left ≡ drop n lines → left ≡ line ∷ rest
    → AreNew Terminal n' seats' × AreShifts 0 plan lines ps' × (n' ≡ suc n) × (rest ≡ drop n' lines)
started_terminal {L} plan lines left rest line ps ps' p n n' seats seats' seat are is are_shifts many more many' who same own left_is next =
    let new = subst (AreNew Terminal n) is are in
    let named : Terminal p.link ≡ Terminal n = sym who ∙ ap (λ (s : SeatState). s.who) new.0 in
    let number : p.link ≡ n = cc named in
    let next_is : n' ≡ suc n = omega (arith, many, many', ap length more, length-append ps (p ∷ [])) in (
      subst (λ (k : ℕ). AreNew Terminal k seats') (sym next_is) new.1,
      subst (AreShifts 0 plan lines) (sym more) (shifts_more 0 plan lines rest line ps p (omega (arith, number, many)) same own
          (ap (λ (k : ℕ). drop k lines) many ∙ sym left_is ∙ next) are_shifts),
      next_is,
      sym (ap (drop 1) (sym left_is ∙ next)) ∙ one_dropped n lines ∙ ap (λ (k : ℕ). drop k lines) (sym next_is),
    )

-- WHAT CAME OF THE TERMINALS, in the history.
did_turns : {L : Type 0} (l : line_end.Ghosts L) (line line' : L) (link number : ℕ) (seat : SeatState) (plan plan' : Plan) (told : Result ShiftReport TermFault) (books : Books) (history : List Entry) → number ≡ link → seat.who ≡ Terminal number → plan ≡ plan' → line ≡ line' → IsFaithful books history seat
    → (all : List Entry) × AreAll seat all × DoesShiftOver l line plan number told all → (calls : List Entry) × AreCalls (Terminal link) books history calls × DoesShiftOver l line' plan' link told calls
did_turns {L} l line line' link number seat plan plan' told books history same is plans own faithful does = (
  does.0,
  all_calls (Terminal link) seat does.0 books history (is ∙ ap Terminal same) does.1 faithful,
  subst (λ (it : L). DoesShiftOver l it plan' link told does.0) own
      (subst (λ (n : ℕ). DoesShiftOver l line plan' n told does.0) same (subst (λ (p : Plan). DoesShiftOver l line p number told does.0) plans does.2)),
)

pub did_shifts_over : {L : Type 0} (l : line_end.Ghosts L) (link : ℕ) (plan : Plan) (lines : List L) (ps : List (ShiftOf L)) (ends : List (Ended SeatState (Result ShiftReport TermFault))) (idle : List SeatState) (books : Books) (history : List Entry) → AreShifts link plan lines ps → AllZip (KeepsShift l) ps ends
    → All (IsFaithful books history) (map (λ (end : Ended SeatState (Result ShiftReport TermFault)). end.seat) ends ++ idle)
    → DidShiftsOver l link plan lines (map (λ (end : Ended SeatState (Result ShiftReport TermFault)). end.told) ends) books history × All (IsFaithful books history) idle
did_shifts_over l link plan lines [] [] idle books history are each faithful = (tt, faithful)
did_shifts_over l link plan lines [] (end ∷ ends) idle books history are each faithful = absurd each
did_shifts_over l link plan lines (p ∷ ps) [] idle books history are each faithful = absurd each
did_shifts_over l link plan [] (p ∷ ps) (end ∷ ends) idle books history are each faithful = absurd are
did_shifts_over l link plan (line ∷ lines) (p ∷ ps) (end ∷ ends) idle books history are each faithful =
    let later = did_shifts_over l (suc link) plan lines ps ends idle books history are.1 each.1 (All-tail (IsFaithful books history) end.seat _ faithful) in (
      (
        did_turns l p.line.value line link p.link end.seat p.plan plan end.told books history are.0.0 each.0.0 are.0.1 are.0.2 (All-head (IsFaithful books history) end.seat _ faithful) each.0.1,
        later.0,
      ),
      later.1,
    )

-- whatever the lines
pub did_shifts : {L : Type 0} (l : line_end.Ghosts L) (link : ℕ) (plan : Plan) (lines : List L) (told : List (Result ShiftReport TermFault)) (books : Books) (history : List Entry) → DidShiftsOver l link plan lines told books history → DidShifts link plan told books history
did_shifts l link plan lines [] books history did = tt
did_shifts l link plan [] (ended ∷ told) books history did = absurd did
did_shifts l link plan (line ∷ lines) (ended ∷ told) books history did = ((did.0.0, did.0.1, did.0.2.shift), did_shifts l (suc link) plan lines told books history did.1)

-- and of those that have no line
pub asked_nothing : (n link : ℕ) (seats : List SeatState) (books : Books) (history : List Entry) → AreNew Terminal n seats → All (IsFaithful books history) seats
    → n ≤ link → link < n + length seats → AreCalls (Terminal link) books history []
asked_nothing n link [] books history new faithful from to = absurd (omega (arith, from, to))
asked_nothing n link (seat ∷ seats) books history new faithful from to = elim (cases_lt n link) [
  | inl later ↦
      asked_nothing (suc n) link seats books history new.1 (All-tail (IsFaithful books history) seat seats faithful) (omega (arith, later)) (omega (arith, to))
  | inr here ↦
      let same : n ≡ link = omega (arith, from, here) in
      let none : AreAll seat [] = record { forgotten = []; all_are = sym (ap (λ (s : SeatState). s.receipts) new.0); many = sym (ap (λ (s : SeatState). s.forgotten.calls) new.0) } in
      all_calls (Terminal link) seat [] books history (ap (λ (s : SeatState). s.who) new.0 ∙ ap Terminal same) none (All-head (IsFaithful books history) seat seats faithful)
]
