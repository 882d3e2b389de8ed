-- THE BITS OF AN OCTET, mark by mark: `hear_bits` feeds up to the first mark, hears it, and calls itself on the bits that are
-- left, so each of its returns joins the first mark to what its call tells of the others. The induction is that recursion;
-- `marks-append` of `l2_bits` joins the marks, Talking the talks. The last part leads from bits to a receiver's octets.
use Rattle.std.proofs.Common.{sym, ap, subst, ◌≡◌, ◌∙◌, ℕ, Bool, List, [], ◌∷◌, ◌++◌, Some, None, Result, Ok, Err, append_assoc, append-nil}
use Rattle.std.proofs.lemmas.Grind.{flat_map-append}
use Rattle.l2_bits.specs.declared.deframing.Deframer.{Deframer}
use Rattle.l2_bits.specs.declared.marks.Mark.{Mark}
use Rattle.l2_bits.specs.declared.marks.MarkKind.{MarkKind}
use Rattle.l2_bits.specs.Deframing.{StandsFor, FeedsUpTo, marked as mark_of}
use Rattle.l2_bits.specs.LineBits.{bits_of, line_bits}
use Rattle.l2_bits.specs.Marks.{AreMarks}
use Rattle.l2_bits.proofs.MarkLemmas.{marks-append}
use Rattle.set_events.specs.declared.history.Entry.{Entry}
use Rattle.set_events.specs.declared.fault.SetFault.{SetFault}
use Rattle.term_model.specs.Hearing.{marked, all_marked}
use Rattle.term_model.specs.Terminal.{Terminal}
use Rattle.link_term.specs.declared.counts.MarkCounts.{MarkCounts}
use Rattle.link_term.specs.Octets.{counts_of, Fed, FedSome, HearsBits, BreaksBits, Hears}
use Rattle.link_term.specs.Turning.{HearsOctet}
use Rattle.link_term.specs.Talking.{AtDoor, Gains, Breaks}
use Rattle.link_term.proofs.Talking.{gains_joined, breaks_at_first, breaks_at_last}

-- all bits were fed, and gave no mark
pub fed_none : (past bits rest : List Bool) (deframer : Deframer) → rest ≡ [] → FeedsUpTo past bits rest deframer None
    → Fed past bits [] deframer
fed_none past bits rest deframer none feeds =
    let all : bits ≡ feeds.taken = feeds.split ∙ ap (λ (r : List Bool). feeds.taken ++ r) none ∙ append-nil feeds.taken in record {
      are = subst (λ b. AreMarks past b []) (sym all) feeds.marks;
      stands = subst (λ b. StandsFor (past ++ b) deframer) (sym all) feeds.stands;
    }

-- the first of them gave a mark, and the others these
pub fed_one : (past bits rest : List Bool) (deframer last : Deframer) (mark : Mark) (marks : List Mark)
    → (feeds : FeedsUpTo past bits rest deframer (Some mark)) → Fed (past ++ feeds.taken) rest marks last
    → Fed past bits (mark ∷ marks) last
fed_one past bits rest deframer last mark marks feeds fed = record {
  are = subst (λ b. AreMarks past b (mark ∷ marks)) (sym feeds.split)
      (marks-append past feeds.taken rest (mark ∷ []) marks feeds.marks fed.are);
  stands = subst (λ b. StandsFor b last)
      (append_assoc past feeds.taken rest ∙ ap (λ (b : List Bool). past ++ b) (sym feeds.split)) fed.stands;
}

module _ (past bits rest : List Bool) (deframer last : Deframer) (mark : Mark) (before : AtDoor)
    (feeds : FeedsUpTo past bits rest deframer (Some mark)) where
  -- the first mark was heard, and the others after it
  pub hears_one : (mid after : AtDoor) (later counts : MarkCounts)
      → Gains (marked mark before.inside) before.asked.made mid.asked.made mid.inside
      → ((marks : List Mark) → later ≡ counts_of marks → counts ≡ counts_of (mark ∷ marks))
      → HearsBits (past ++ feeds.taken) rest mid later after last → HearsBits past bits before counts after last
  hears_one mid after later counts first counted hears = record {
    marks = mark ∷ hears.marks;
    fed = fed_one past bits rest deframer last mark hears.marks feeds hears.fed;
    gains = gains_joined (marked mark before.inside) (λ v. all_marked hears.marks v) before.asked.made mid.asked.made
        after.asked.made mid.inside after.inside first hears.gains;
    counts_are = counted hears.marks hears.counts_are;
  }

  -- the first mark was heard, and a later one broke off
  pub breaks_later : (mid : AtDoor) (made' : List Entry)
      → Gains (marked mark before.inside) before.asked.made mid.asked.made mid.inside
      → BreaksBits (past ++ feeds.taken) rest mid made' last → BreaksBits past bits before made' last
  breaks_later mid made' first broke = record {
    marks = mark ∷ broke.marks;
    fed = fed_one past bits rest deframer last mark broke.marks feeds broke.fed;
    breaks = breaks_at_last (marked mark before.inside) (λ v. all_marked broke.marks v) before.asked.made mid.asked.made
        made' mid.inside first broke.breaks;
  }

  -- the first mark broke off
  pub breaks_now : (made' : List Entry) → Breaks (marked mark before.inside) before.asked.made made'
      → FedSome (past ++ feeds.taken) rest last → BreaksBits past bits before made' last
  breaks_now made' breaks some = record {
    marks = mark ∷ some.marks;
    fed = fed_one past bits rest deframer last mark some.marks feeds some.fed;
    breaks = breaks_at_first (marked mark before.inside) (λ v. all_marked some.marks v) before.asked.made made' breaks;
  }

-- the octets of a good unit, by another name
pub same_gains : (kind : MarkKind) (octets octets' : List ℕ) (t u : Terminal) (made mid : List Entry) → octets ≡ octets'
    → Gains (marked (mark_of kind octets) t) made mid u → Gains (marked (mark_of kind octets') t) made mid u
same_gains kind octets octets' t u made mid is gains = subst (λ o. Gains (marked (mark_of kind o) t) made mid u) is gains

pub same_breaks : (kind : MarkKind) (octets octets' : List ℕ) (t : Terminal) (made made' : List Entry) → octets ≡ octets'
    → Breaks (marked (mark_of kind octets) t) made made' → Breaks (marked (mark_of kind octets') t) made made'
same_breaks kind octets octets' t made made' is breaks = subst (λ o. Breaks (marked (mark_of kind o) t) made made') is breaks

-- A WHOLE OCTET.

-- whether or not the door failed, all bits were fed
pub all_fed : (past bits : List Bool) (before : AtDoor) (result : Result MarkCounts SetFault) (after : AtDoor)
    (deframer : Deframer) → Hears past bits before result after deframer → StandsFor (past ++ bits) deframer
all_fed past bits before (Ok counts) after deframer hears = hears.0.fed.stands
all_fed past bits before (Err fault) after deframer hears = hears.0.fed.stands

one_octet_more : (taken : List ℕ) (octet : ℕ) → line_bits (taken ++ octet ∷ []) ≡ line_bits taken ++ bits_of 8 octet
one_octet_more taken octet =
    flat_map-append (bits_of 8) taken (octet ∷ []) ∙ ap (λ (b : List Bool). line_bits taken ++ b) (append-nil (bits_of 8 octet))

pub octet_taken : (taken taken' : List ℕ) (octet : ℕ) (bits : List Bool) (deframer : Deframer) → taken' ≡ taken ++ octet ∷ []
    → bits ≡ bits_of 8 octet → StandsFor (line_bits taken ++ bits) deframer → StandsFor (line_bits taken') deframer
octet_taken taken taken' octet bits deframer is same stands =
    subst (λ o. StandsFor (line_bits o) deframer) (sym is) (subst (λ b. StandsFor b deframer) (sym (one_octet_more taken octet))
    (subst (λ b. StandsFor (line_bits taken ++ b) deframer) same stands))

pub octet_heard : (past past' bits bits' : List Bool) (before : AtDoor) (result : Result MarkCounts SetFault) (after : AtDoor)
    (deframer : Deframer) → past ≡ past' → bits ≡ bits' → Hears past bits before result after deframer
    → HearsOctet past' bits' before result after
octet_heard past past' bits bits' before (Ok counts) after deframer same is hears = (
  record {
    marks = hears.0.marks;
    are = subst (λ p. AreMarks p bits' hears.0.marks) same (subst (λ b. AreMarks past b hears.0.marks) is hears.0.fed.are);
    gains = hears.0.gains;
    counts_are = hears.0.counts_are;
  },
  hears.1,
)
octet_heard past past' bits bits' before (Err fault) after deframer same is hears = (
  record {
    marks = hears.0.marks;
    are = subst (λ p. AreMarks p bits' hears.0.marks) same (subst (λ b. AreMarks past b hears.0.marks) is hears.0.fed.are);
    breaks = hears.0.breaks;
  },
  hears.1,
)
