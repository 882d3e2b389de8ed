-- The lines of a text, and that an input has one text.
use Rattle.std.proofs.Common.{refl, arith, Bool, ◌≡◌, ◌∙◌, ap, sym, ◌<◌, ◌≤◌, [], ◌∷◌, length, ℕ, zero, suc, ◌+◌, ◌-◌, true, false, nat_lt, ◌==◌, List, ◌++◌, Some, None, append_assoc, take, drop, get_or, position, subst}
use Rattle.std.proofs.lemmas.Grind.{common_steps}
use Rattle.std.proofs.lemmas.List.Quantifiers.{position-Some}
use Rattle.std.proofs.lemmas.List.Sums.{fails_before_first}
use Rattle.std.specs.List.{position_or_len}
use Rattle.std.proofs.lemmas.Bool.Decides.{nat_tests}
use Rattle.text_base.specs.Printing.{Printed, behind}
use Rattle.text_lines.specs.Lines.{is_lf, is_remark, LineOutcome, prints, stops, lines_of, onto_first}
use Rattle.text_lines.specs.Reading.{IsOpen}
use Rattle.text_lines.specs.Talking.{Leads}
use Rattle.text_lines.specs.Talks.{GoesOnBy, HasOneText, HaveOneOutcome, IsTextOfLines, MayBe, MayRead, TalkRules}

-- Lines.

line_ends : (text left : List ℕ) → IsOpen text → lines_of (text ++ 10 ∷ left) ≡ text ∷ lines_of left
line_ends [] left o = refl
line_ends (c ∷ cs) left o =
    let other : (c == 10) ≡ false = grind (arith, nat_tests, o.0) in
    rw other (ap (λ (lines : List (List ℕ)). onto_first c lines) (line_ends cs left o.1))

last_line : (c : ℕ) (cs : List ℕ) → IsOpen (c ∷ cs) → lines_of ((c ∷ cs) ++ []) ≡ (c ∷ cs) ∷ []
last_line c [] o = let other : (c == 10) ≡ false = grind (arith, nat_tests, o.0) in rw other refl
last_line c (d ∷ ds) o =
    let other : (c == 10) ≡ false = grind (arith, nat_tests, o.0) in
    rw other (ap (λ (lines : List (List ℕ)). onto_first c lines) (last_line d ds o.1))

-- a last line that lacks its LF
pub last_lines : (text : List ℕ) → 0 < length text → IsOpen text → lines_of (text ++ []) ≡ text ∷ []
last_lines [] h o = absurd (omega (arith, h))
last_lines (c ∷ cs) h o = last_line c cs o

-- open octets begin the first line, however it goes on
pub record Begins (text : List ℕ) (lines : List (List ℕ)) : Type 0 where
  pub more : List ℕ
  pub others : List (List ℕ)
  pub lines_are : lines ≡ (text ++ more) ∷ others

begins_one : (c : ℕ) (lines : List (List ℕ)) → Begins (c ∷ []) (onto_first c lines)
begins_one c [] = record { more = []; others = []; lines_are = refl }
begins_one c (line ∷ lines) = record { more = line; others = lines; lines_are = refl }

begins_more : (c : ℕ) (text : List ℕ) (lines : List (List ℕ)) → Begins text lines → Begins (c ∷ text) (onto_first c lines)
begins_more c text lines b = record { more = b.more; others = b.others; lines_are = ap (λ (xs : List (List ℕ)). onto_first c xs) b.lines_are }

line_begins : (c : ℕ) (cs left : List ℕ) → IsOpen (c ∷ cs) → Begins (c ∷ cs) (lines_of ((c ∷ cs) ++ left))
line_begins c [] left o =
    let other : (c == 10) ≡ false = grind (arith, nat_tests, o.0) in rw other (begins_one c (lines_of left))
line_begins c (d ∷ ds) left o =
    let other : (c == 10) ≡ false = grind (arith, nat_tests, o.0) in
    rw other (begins_more c (d ∷ ds) (lines_of ((d ∷ ds) ++ left)) (line_begins d ds left o.1))

pub begins_at : (text left : List ℕ) {whole : List ℕ} → IsOpen text → 0 < length text → text ++ left ≡ whole → Begins text (lines_of whole)
begins_at [] left o h e = absurd (omega arith)
begins_at (d ∷ ds) left o h e = rw (← e) (line_begins d ds left o)

pub open_more : (text more : List ℕ) → IsOpen text → IsOpen more → IsOpen (text ++ more)
open_more [] more o h = h
open_more (c ∷ cs) more o h = (o.0, open_more cs more o.1 h)

-- a line that was begun, and goes on with these octets
pub line_goes_on : (text octets left whole : List ℕ) → whole ≡ text ++ octets → IsOpen whole → lines_of (text ++ ((octets ++ 10 ∷ []) ++ left)) ≡ whole ∷ lines_of left
line_goes_on text octets left whole e o =
    ap lines_of (ap (λ (x : List ℕ). text ++ x) (append_assoc octets (10 ∷ []) left) ∙ sym (append_assoc text octets (10 ∷ left)) ∙ ap (λ (x : List ℕ). x ++ 10 ∷ left) (sym e)) ∙ line_ends whole left o

-- Where a line ends.

-- up to here no octet ends a line, and this one does
open_within : (xs : List ℕ) (k : ℕ) → k ≤ length xs → ((i : ℕ) → i < k → is_lf (get_or xs i 0) ≡ false) → IsOpen (take k xs)
open_within xs zero h f = tt
open_within [] (suc k) h f = absurd (omega arith)
open_within (c ∷ cs) (suc k) h f = (grind (arith, nat_tests, f 0 (omega arith)), open_within cs k (omega arith) (λ i lt. f (suc i) (omega arith)))

pub open_before : (xs : List ℕ) (k : ℕ) → Some k ≡ position is_lf xs → IsOpen (take k xs)
open_before xs k e = let at = position-Some is_lf xs k 0 (sym e) in open_within xs k (omega (arith, at.0)) at.2

pub cut_at : (xs : List ℕ) (k : ℕ) → Some k ≡ position is_lf xs → (take k xs ++ 10 ∷ []) ++ take (length xs - (k + 1)) (drop (k + 1) xs) ≡ xs
cut_at xs k e =
    let at = position-Some is_lf xs k 0 (sym e) in
    let lf : get_or xs k 0 ≡ 10 = grind (arith, nat_tests, at.1) in
    grind (arith, common_steps, lf, at.0)

pub all_open : (xs : List ℕ) → None ≡ position is_lf xs → IsOpen xs
all_open xs e =
    let long : length xs ≤ position_or_len is_lf xs = grind (arith, common_steps) in
    let whole : xs ≡ take (length xs) xs = grind (arith, common_steps) in
    rw whole (open_within xs (length xs) (omega arith) (λ i lt. fails_before_first is_lf xs i 0 (omega (arith, long, lt))))

-- Whether a line is under way.

pub nothing_read : (text : List ℕ) (n : ℕ) → n ≡ length text → (n == 0) ≡ true → text ≡ []
nothing_read [] n e h = refl
nothing_read (c ∷ cs) n e h = absurd (grind (arith, nat_tests, e, h))

pub something_read : (text : List ℕ) (n : ℕ) → n ≡ length text → (n == 0) ≡ false → 0 < length text
something_read [] n e h = absurd (grind (arith, nat_tests, e, h))
something_read (c ∷ cs) n e h = omega arith

-- What goes on behind what was printed.

module _ {F : Type 0} where
  pub leads_same : (A : Printed F → Type 0) → Leads A [] A
  leads_same A = record { on = λ later a. a; back = λ text a. (text, a, refl) }

  behind_twice : (p q : List ℕ) (text : Printed F) → behind p (behind q text) ≡ behind (p ++ q) text
  behind_twice p q text = ap (λ (x : List ℕ). record { printed = x; fault = text.fault }) (sym (append_assoc p q text.printed))

  pub leads_on : (A B C : Printed F → Type 0) (p q : List ℕ) → Leads A p B → Leads B q C → Leads A (p ++ q) C
  leads_on A B C p q f g = record {
    on = λ later c. subst A (behind_twice p q later) (f.on (behind q later) (g.on later c));
    back = λ text a.
        let first = f.back text a in
        let second = g.back first.0 first.1 in
        (second.0, second.1, first.2 ∙ ap (λ (t : Printed F). behind p t) second.2 ∙ behind_twice p q second.0);
  }

-- A line has one outcome, and an input one text.

module _ {S F : Type 0} (rules : TalkRules S F) (one : HaveOneOutcome rules) where
  be_one : (long remark : Bool) (n : ℕ) (state : S) (line : List ℕ) (a b : LineOutcome S F)
      → MayBe long remark rules n state line a → MayBe long remark rules n state line b → a ≡ b
  be_one true remark n state line a b x y = x ∙ sym y
  be_one false true n state line a b x y = x ∙ sym y
  be_one false false n state line a b x y = one n state line a b x y

  read_one : (n : ℕ) (state : S) (line : List ℕ) (a b : LineOutcome S F) → MayRead rules n state line a → MayRead rules n state line b → a ≡ b
  read_one n state line a b x y = be_one (nat_lt 4096 (length line)) (is_remark line) n state line a b x y

  goes_one : (outcome : LineOutcome S F) (Next : S → Printed F → Type 0) → ((state : S) (a b : Printed F) → Next state a → Next state b → a ≡ b)
      → (a b : Printed F) → GoesOnBy outcome Next a → GoesOnBy outcome Next b → a ≡ b
  goes_one (prints printed state) Next next a b x y = x.2 ∙ ap (λ (t : Printed F). behind printed t) (next state x.0 y.0 x.1 y.1) ∙ sym y.2
  goes_one (stops fault) Next next a b x y = x ∙ sym y

  pub one_of_lines : (lines : List (List ℕ)) (n : ℕ) (state : S) (a b : Printed F) → IsTextOfLines rules n state lines a → IsTextOfLines rules n state lines b → a ≡ b
  one_of_lines [] n state a b x y = x ∙ sym y
  one_of_lines (line ∷ lines) n state a b x y =
      goes_one y.0 (λ next later. IsTextOfLines rules (suc n) next lines later) (λ next. one_of_lines lines (suc n) next) a b
      (subst (λ (o : LineOutcome S F). GoesOnBy o (λ next later. IsTextOfLines rules (suc n) next lines later) a)
      (read_one n state line x.0 y.0 x.1 y.1) x.2) y.2

  pub one_text : HasOneText rules
  one_text input a b x y = one_of_lines (lines_of input) 1 rules.start a b x y

  -- a line that may be carried out so is
  pub line_leads : (n : ℕ) (state : S) (line printed : List ℕ) (next : S) (lines : List (List ℕ)) → MayRead rules n state line (prints printed next)
      → Leads (IsTextOfLines rules n state (line ∷ lines)) printed (IsTextOfLines rules (suc n) next lines)
  line_leads n state line printed next lines may = record {
    on = λ later a. (prints printed next, may, (later, a, refl));
    back = λ text a.
        subst (λ (o : LineOutcome S F). GoesOnBy o (λ next later. IsTextOfLines rules (suc n) next lines later) text)
        (read_one n state line a.0 (prints printed next) a.1 may) a.2;
  }
