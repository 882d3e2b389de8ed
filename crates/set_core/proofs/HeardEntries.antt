-- ENTRIES THAT ARE HEARD one after another (src/auditing.rt): those that were found right are heard (`heard_more`,
-- `heard_on`), all of them are a legal history (`heard_all`), and one that was found wrong makes it none (`none_legal`).
use Rattle.std.proofs.Common.{refl, arith, ◌≡◌, ◌∙◌, ap, sym, subst, take, drop, get_or, ◌<◌, ◌≤◌, [], ◌∷◌, length, ℕ, ◌+◌, List, ◌++◌, Option, Some, None, Result, Ok, Err, take-append-drop}
use Rattle.std.specs.Result.{IsErrAnd}
use Rattle.std.proofs.lemmas.Grind.{common_steps}
use Rattle.std.proofs.lemmas.List.{drop_more, length-append, take_more}
use Rattle.set_core.specs.Hearing.{HasHeard, Hearing, IsFound, IsWrongNext}
use Rattle.set_core.specs.declared.auditor.Finding.{Finding}
use Rattle.set_core.specs.declared.auditor.Finding.TheVariants.{Right, WrongAnswer, NoSuchActor}
use Rattle.set_core.specs.Items.{AreLegal, entered}
use Rattle.set_core.specs.declared.item.Item.{Item}
use Rattle.set_core.specs.declared.item.Item.TheVariants.{Entered}
use Rattle.set_core.proofs.Heard.{front_with}
use Rattle.set_core.proofs.Running.{entries_entered, legal_both, legal_entered}
use Rattle.set_events.specs.declared.answer.Answer.{Answer}
use Rattle.set_events.specs.declared.history.Entry.{Entry}
use Rattle.set_model.specs.History.{Base, IsLegal, entries_of, longest_history}
use Rattle.set_model.specs.State.{State}
use Rattle.set_events.specs.declared.fault.SetFault.{SetFault}
use Rattle.set_events.specs.declared.fault.SetFault.TheVariants.{NoMemory, Exhausted}

-- one entry more
entered_more : (entries : List Entry) (entry : Entry) → entered (entries ++ entry ∷ []) ≡ entered entries ++ Entered entry ∷ []
entered_more [] entry = refl
entered_more (x ∷ entries) entry = ap (λ (items : List Item). Entered x ∷ items) (entered_more entries entry)

pub heard_more : (base : Base) (before : List Entry) (entry : Entry) (h : Hearing) → HasHeard base (entered before ++ Entered entry ∷ []) h → HasHeard base (entered (before ++ entry ∷ [])) h
heard_more base before entry h heard = rw (entered_more before entry) heard

pub heard_on : (base : Base) (entries : List Entry) (i : ℕ) (entry : Entry) (h : Hearing) → i < length entries → entry ≡ get_or entries i entry → HasHeard base (entered (take i entries) ++ Entered entry ∷ []) h → HasHeard base (entered (take (i + 1) entries)) h
heard_on base entries i entry h low is heard =
    let grown : take i entries ++ entry ∷ [] ≡ take (i + 1) entries = ap (λ (e : Entry). take i entries ++ e ∷ []) is ∙ sym (take_more entries i entry low) in
    subst (λ (before : List Entry). HasHeard base (entered before) h) grown (heard_more base (take i entries) entry h heard)

pub heard_all : (base : Base) (entries : List Entry) (h : Hearing) → HasHeard base (entered entries) h → IsLegal base.state entries
heard_all base entries h heard = (legal_entered base.state entries).0 heard.legal

-- an entry that no set makes
legal_front : (s : State) (xs ys : List Item) → AreLegal s (xs ++ ys) → AreLegal s xs
legal_front s xs ys l = ((legal_both s xs ys).0 l).0

entered_both : (before rest : List Entry) (entry : Entry) → entered (before ++ entry ∷ rest) ≡ (entered before ++ Entered entry ∷ []) ++ entered rest
entered_both [] rest entry = refl
entered_both (x ∷ before) rest entry = ap (λ (items : List Item). Entered x ∷ items) (entered_both before rest entry)

pub none_legal : (s : State) (before rest : List Entry) (entry : Entry) (answer : Option Answer) → IsWrongNext s (entered before) (Entered entry) answer → IsLegal s (before ++ entry ∷ rest) → ⊥
none_legal s before rest entry answer wrong legal =
    let all : AreLegal s ((entered before ++ Entered entry ∷ []) ++ entered rest) = rw (entered_both before rest entry) at ((legal_entered s (before ++ entry ∷ rest)).1 legal) in
    (wrong.first []).wrong (rw (front_with (entered before) (Entered entry) []) (legal_front s (entered before ++ Entered entry ∷ []) (entered rest) all))

-- where the first of some entries stands
pub split_here : (entries : List Entry) (i : ℕ) (entry : Entry) → i < length entries → entry ≡ get_or entries i entry → entries ≡ take i entries ++ entry ∷ drop (i + 1) entries
split_here entries i entry low is =
    sym (ap (λ (rest : List Entry). take i entries ++ rest) (sym (drop_more entries i entry low ∙ ap (λ (e : Entry). e ∷ drop (i + 1) entries) (sym is))) ∙ take-append-drop i entries)

pub none_here : (s : State) (entries : List Entry) (i : ℕ) (entry : Entry) (answer : Option Answer) → i < length entries → entry ≡ get_or entries i entry → IsWrongNext s (entered (take i entries)) (Entered entry) answer → IsLegal s entries → ⊥
none_here s entries i entry answer low is wrong legal =
    none_legal s (take i entries) (drop (i + 1) entries) entry answer wrong (subst (λ (es : List Entry). IsLegal s es) (split_here entries i entry low is) legal)

-- The faults.

-- so many entries were heard
pub many_heard : (base : Base) (before : List Entry) (h : Hearing) → HasHeard base (entered before) h → h.tally.entries ≡ entries_of base before
many_heard base before h heard = heard.entries ∙ ap (entries_of base) (entries_entered before)

pub has_room : (base : Base) (entries : List Entry) (i : ℕ) (h : Hearing) → i < length entries → entries_of base entries ≤ longest_history → HasHeard base (entered (take i entries)) h → longest_history ≤ h.tally.entries → ⊥
has_room base entries i h low few heard more =
    let many = many_heard base (take i entries) h heard in
    let short : length (take i entries) ≤ i = grind (arith, common_steps) in
    omega (arith, many, short, low, few, more)

pub has_room_left : (base : Base) (entries before rest : List Entry) (entry : Entry) (h : Hearing) → entries ≡ before ++ entry ∷ rest → entries_of base entries ≤ longest_history → HasHeard base (entered before) h → longest_history ≤ h.tally.entries → ⊥
has_room_left base entries before rest entry h split few heard more =
    let many = many_heard base before h heard in
    omega (arith, many, ap length split, length-append before (entry ∷ rest), few, more)

-- a fault that `?` passes on
pub passed_on : {A E : Type 0} (result : Result A E) (fault : E) → IsErrAnd result (λ e. e ≡ fault) → result ≡ Err fault
passed_on (Ok done) fault is = absurd is
passed_on (Err other) fault is = ap (λ e. Err e) is

pub only_memory : (fault : SetFault) → (fault ≡ Exhausted → ⊥) → fault ≡ NoMemory
only_memory NoMemory not_full = refl
only_memory Exhausted not_full = absurd (not_full refl)

-- What is found of an entry.
pub found_right : (base : Base) (items : List Item) (item : Item) (finding : Finding) (new : Hearing) → finding ≡ Right → IsFound base items item finding new → HasHeard base (items ++ item ∷ []) new
found_right base items item finding new is found = rw is at found

pub found_wrong : (base : Base) (items : List Item) (item : Item) (finding : Finding) (new : Hearing) → finding ≡ WrongAnswer → IsFound base items item finding new → IsWrongNext base.state items item (Some new.answer)
found_wrong base items item finding new is found = rw is at found

pub found_nobody : (base : Base) (items : List Item) (item : Item) (finding : Finding) (new : Hearing) → finding ≡ NoSuchActor → IsFound base items item finding new → IsWrongNext base.state items item None
found_nobody base items item finding new is found = rw is at found
