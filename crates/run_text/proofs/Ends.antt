-- The ends of a traffic, one by one, and what is written of them.
use Rattle.std.proofs.Common.{refl, arith, ◌≡◌, ◌∙◌, ap, append-nil, sym, subst, ℕ, zero, suc, Bool, false, List, [], ◌∷◌, ◌++◌, length, map, Option, Result, Ok, Err, All, IsOk, IfErr, IfOk}
use Rattle.std.specs.Result.{is_err}
use Rattle.std.proofs.lemmas.List.{length-append, length-map}
use Rattle.std.proofs.lemmas.List.Elements.{All-nil, All-cons}
use Rattle.set_events.specs.declared.config.SetConfig.{SetConfig}
use Rattle.bank_crew.specs.declared.end.SetEnd.{SetEnd}
use Rattle.bank_crew.specs.Ends.{Task}
use Rattle.std.proofs.KnownBytes.{Appends-nil}
use Rattle.bank_core.specs.Ends.{AreEnds}
use Rattle.bank_core.specs.declared.fault.BankFault.{BankFault}
use Rattle.bank_core.specs.declared.fault.BankFault.TheVariants.{NoMemory, Users, Sets, NoThread, Unclosed, Wide}
use Rattle.bank_traffic.specs.declared.asked.Traffic.{Traffic}
use Rattle.bank_traffic.specs.Opening.{AreEndsOf, OneEnd, far_end, near_end, numbers_below}
use Rattle.text_base.specs.declared.device.DeviceFault.{DeviceFault}
use Rattle.text_base.specs.declared.fault.Fault.{Fault}
use Rattle.text_base.specs.declared.fault.Fault.TheVariants.{Input, Memory, Read, Long, Write}
use Rattle.text_base.specs.Printing.{Writes}
use Rattle.run_text.specs.declared.verdict.Missing.{Missing}
use Rattle.run_text.specs.declared.fault.RunFault.{RunFault}
use Rattle.mtpbank_words.specs.declared.run_words.RunWords.{RunWords}
use Rattle.run_text.specs.Asked.{IsFaultOfAsked, IsTrafficOf}
use Rattle.run_text.specs.Running.{IsAnEnd, IsFaultOfRun, IsRunText, IsTextOfEnds, Runs, Showing, TellsLack, WritesEnds, WritesText}

-- no fault
pub ok_of : {A B : Type 0} (r : Result A B) → false ≡ is_err r → IsOk r
ok_of (Ok x) is = refl
ok_of (Err x) is = absurd (cc is)

-- each is the end of a set
each_end : (tasks : List Task) (ends : List SetEnd) → AreEnds tasks ends → All IsAnEnd ends × (length ends ≡ length tasks)
each_end [] [] are = (All-nil IsAnEnd, refl)
each_end [] (end ∷ ends) are = absurd are
each_end (task ∷ tasks) [] are = absurd are
each_end (task ∷ tasks) (end ∷ ends) are =
    let rest = each_end tasks ends are.1 in
    (All-cons IsAnEnd end ends (task.config, are.0.closed) rest.0, omega (arith, rest.1))

so_many : (n : ℕ) → length (numbers_below n) ≡ n
so_many zero = refl
so_many (suc n) =
    let more = length-append (numbers_below n) (n ∷ []) in
    let fewer = so_many n in
    omega (arith, more, fewer)

pub ends_of : (traffic : Traffic) (side : OneEnd) (ends : List SetEnd) → AreEndsOf traffic side ends
    → All IsAnEnd ends × (length ends ≡ traffic.sets)
ends_of traffic side ends are =
    let each = each_end are.0 ends are.2 in
    let configs = map (λ (task : Task). task.config) are.0 in
    let numbers = ap length are.1.configs.numbers in
    let all = length-map configs (λ (config : SetConfig). config.set) in
    let tasks = length-map are.0 (λ (task : Task). task.config) in
    let many = so_many traffic.sets in
    (each.0, omega (arith, each.1, numbers, all, tasks, many))

-- a text that is one thing is another
pub wider : {T : Type 0} (P Q : T → List ℕ → Type 0) → ((answer : T) (text : List ℕ) → P answer text → Q answer text) → (result : Result T (Fault RunFault))
    (old new : Option (List ℕ)) → WritesText P result old new → WritesText Q result old new
wider P Q f (Ok answer) old new w = record { printed = w.printed; added = w.added; ends = f answer w.printed w.ends }
wider P Q f (Err (Input fault)) old new w = record { printed = w.printed; added = w.added; ends = w.ends }
wider P Q f (Err Memory) old new w = record { printed = w.printed; added = w.added; ends = w.ends }
wider P Q f (Err Read) old new w = absurd w.ends
wider P Q f (Err Long) old new w = absurd w.ends
wider P Q f (Err Write) old new w =
    record { printed = w.printed; added = w.added; ends = (w.ends.0, w.ends.1, f w.ends.0 (w.printed ++ w.ends.1) w.ends.2) }

-- all octets of a text were written, or some of them
pub wrote_all : {T : Type 0} (Q : T → List ℕ → Type 0) (octets : List ℕ) (answer : T) (result : Result (Unit {0}) DeviceFault) (old new : Option (List ℕ))
    → result ≡ Ok tt → Writes result octets old new → Q answer octets → WritesText Q (Ok answer) old new
wrote_all Q octets answer (Ok done) old new is w q =
    record { printed = w.written; added = w.added; ends = subst (Q answer) (w.split ∙ ap (λ (more : List ℕ). w.written ++ more) w.ends ∙ append-nil w.written) q }
wrote_all Q octets answer (Err fault) old new is w q = absurd (cc is)

pub wrote_some : {T : Type 0} (Q : T → List ℕ → Type 0) (octets : List ℕ) (answer : T) (result : Result (Unit {0}) DeviceFault) (old new : Option (List ℕ))
    → Writes result octets old new → Q answer octets → WritesText Q (Err Write) old new
wrote_some Q octets answer result old new w q = record { printed = w.written; added = w.added; ends = (answer, w.more, subst (Q answer) w.split q) }

-- a fault of the traffic that was asked for
pub fault_asked : {T : Type 0} (words : RunWords) (traffic : Traffic) → IsTrafficOf words traffic → (result : Result T (Fault RunFault)) → IfErr result (IsFaultOfRun traffic) → IfErr result (IsFaultOfAsked words)
fault_asked words traffic are (Ok done) is = tt
fault_asked words traffic are (Err fault) is = (traffic, are, is)

-- the text of these ends is that of the traffic that came to them
pub runs_of : (traffic : Traffic) (report : Bool) (shown : Showing) (near near' far far' : List SetEnd) (result : Result (Option Missing) (Fault RunFault)) (old new : Option (List ℕ))
    → shown.report ≡ report → shown.capture ≡ traffic.keeps → near' ≡ near → far' ≡ far → AreEndsOf traffic (near_end traffic) near → AreEndsOf traffic (far_end traffic) far
    → WritesEnds traffic shown near' far' result old new → Runs traffic report shown.time result old new
runs_of traffic report shown near near' far far' result old new told kept same_near same_far near_are far_are w =
    wider (IsTextOfEnds traffic shown near' far') (IsRunText traffic report shown.time) (λ missing text is. record {
      near = near;
      far = far;
      near_are = near_are;
      far_are = far_are;
      of_ends = subst (λ (r : Bool). IsTextOfEnds traffic (record { report = r; capture = traffic.keeps; time = shown.time }) near far missing text) told
          (subst (λ (k : Bool). IsTextOfEnds traffic (record { report = shown.report; capture = k; time = shown.time }) near far missing text) kept
          (subst (λ (n : List SetEnd). IsTextOfEnds traffic shown n far missing text) same_near (subst (λ (f : List SetEnd). IsTextOfEnds traffic shown near' f missing text) same_far is)));
    }) result old new w

-- of a bank that ended early nothing is written
pub nothing_written : {T : Type 0} (P : T → List ℕ → Type 0) (lacked : BankFault) (fault : Fault RunFault) (old : Option (List ℕ)) → TellsLack lacked fault → WritesText P (Err fault) old old
nothing_written P NoMemory fault old is = subst (λ (f : Fault RunFault). WritesText P (Err f) old old) (sym is) (record { printed = []; added = Appends-nil old; ends = refl })
nothing_written P Users fault old is = absurd is
nothing_written P Sets fault old is = absurd is
nothing_written P NoThread fault old is = subst (λ (f : Fault RunFault). WritesText P (Err f) old old) (sym is) (record { printed = []; added = Appends-nil old; ends = refl })
nothing_written P Unclosed fault old is = subst (λ (f : Fault RunFault). WritesText P (Err f) old old) (sym is) (record { printed = []; added = Appends-nil old; ends = refl })
nothing_written P Wide fault old is = absurd is

-- what is known of a result where it's well
pub when_ok : {A B : Type 0} (P : A → Type 0) (result : Result A B) (it : A) → IfOk result P → result ≡ Ok it → P it
when_ok P (Ok other) it holds is = subst P (cc is) holds
when_ok P (Err fault) it holds is = absurd (cc is)
