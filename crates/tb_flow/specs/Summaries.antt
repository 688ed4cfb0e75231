-- Summaries: what all ways through a piece do to the answer of one question about one variable.
use Rattle.std.specs.Prelude.{ℕ, Bool, true, false, ◌&&◌, ◌||◌, Option, Some, None, ◌==◌, nat_lt}
use Rattle.tb_perm.specs.declared.span.Span.{Span}
use Rattle.tb_flow.specs.declared.mark.Question.{Question}
use Rattle.tb_flow.specs.declared.mark.Mark.{Mark}
use Rattle.tb_flow.specs.declared.mark.Mark.TheVariants.{Kept, Yes, No}
use Rattle.tb_flow.specs.declared.mark.Marks.{Marks}
use Rattle.tb_flow.specs.declared.summary.Summary.{Summary}
use Rattle.tb_flow.specs.Flows.{Flow, Nothing, Does, Uses, Part, Then, Either, Loop, Break, Continue, Stop}
use Rattle.tb_flow.specs.Questions.{mark_of}

-- sets of marks
abbrev pub no_marks : Marks
no_marks = record { kept = false; yes = false; no = false }

abbrev pub only : Mark → Marks
only Kept = record no_marks { kept = true }
only Yes = record no_marks { yes = true }
only No = record no_marks { no = true }

abbrev pub some_way : Marks → Bool
some_way marks = (marks.kept || marks.yes) || marks.no

abbrev pub joined : Marks → Marks → Marks
joined a b = record { kept = a.kept || b.kept; yes = a.yes || b.yes; no = a.no || b.no }

-- the later of two marks counts, unless it keeps the answer
abbrev pub followed : Marks → Marks → Marks
followed a b = record {
  kept = a.kept && b.kept;
  yes = (some_way a && b.yes) || (a.yes && b.kept);
  no = (some_way a && b.no) || (a.no && b.kept);
}

-- the place that begins earlier; of two that begin together the one that ends earlier
abbrev pub is_before : Span → Span → Bool
is_before a b = nat_lt a.lo b.lo || ((a.lo == b.lo) && nat_lt a.hi b.hi)

abbrev pub earlier_span : Bool → Span → Span → Option Span
earlier_span true first second = Some second
earlier_span false first second = Some first

abbrev pub earlier : Option Span → Option Span → Option Span
earlier None other = other
earlier (Some first) None = Some first
earlier (Some first) (Some second) = earlier_span (is_before second first) first second

abbrev pub where_true : Bool → Option Span → Option Span
where_true true span = span
where_true false span = None

-- the summaries of the least pieces
abbrev pub stopping : Summary
stopping = record { next = no_marks; broke = no_marks; continued = no_marks; kept_use = None; yes_use = None; part = None }

abbrev pub marked : Mark → Summary
marked mark = record stopping { next = only mark }

abbrev pub used : Span → Summary
used span = record (marked Kept) { kept_use = Some span }

abbrev pub part_moved : Span → Summary
part_moved span = record (marked Kept) { part = Some span }

abbrev pub breaking : Summary
breaking = record stopping { broke = only Kept }

abbrev pub continuing : Summary
continuing = record stopping { continued = only Kept }

-- of two pieces of which one is gone through
unfoldable pub either_of : Summary → Summary → Summary
either_of a b = record {
  next = joined a.next b.next;
  broke = joined a.broke b.broke;
  continued = joined a.continued b.continued;
  kept_use = earlier a.kept_use b.kept_use;
  yes_use = earlier a.yes_use b.yes_use;
  part = earlier a.part b.part;
}

-- of a piece to which ways with these marks lead
abbrev pub after : Marks → Summary → Summary
after marks a = record {
  next = followed marks a.next;
  broke = followed marks a.broke;
  continued = followed marks a.continued;
  kept_use = where_true marks.kept a.kept_use;
  yes_use = earlier (where_true (some_way marks) a.yes_use) (where_true marks.yes a.kept_use);
  part = a.part;
}

unfoldable pub then_of : Summary → Summary → Summary
then_of a b = either_of (record a { next = no_marks }) (after a.next b)

-- a loop: at its head the marks of no turn and of one turn are those of any number, since the last event is that of the last turn that has one
abbrev pub turned : Summary → Summary → Marks
turned head body = joined (only Kept) (followed head.next (joined body.next body.continued))

abbrev pub at_head : Summary → Summary → Summary
at_head head body = after (turned head body) head

abbrev pub in_body : Summary → Summary → Summary
in_body head body = after (at_head head body).next body

abbrev pub ended : Bool → Marks → Marks
ended true marks = marks
ended false marks = no_marks

unfoldable pub loop_of : Summary → Bool → Summary → Summary
loop_of head leaves body =
    either_of (record (at_head head body) { next = ended leaves (at_head head body).next })
    (record (in_body head body) { next = (in_body head body).broke; broke = no_marks; continued = no_marks })

abbrev pub use_of : Bool → Span → Summary
use_of true span = used span
use_of false span = marked Kept

-- the summary of a piece
abbrev pub summary_of : Question → ℕ → Flow → Summary
summary_of question v Nothing = marked Kept
summary_of question v (Does event) = marked (mark_of question v event)
summary_of question v (Uses w span) = use_of (w == v) span
summary_of question v (Part span) = part_moved span
summary_of question v (Then a b) = then_of (summary_of question v a) (summary_of question v b)
summary_of question v (Either a b) = either_of (summary_of question v a) (summary_of question v b)
summary_of question v (Loop head leaves body) = loop_of (summary_of question v head) leaves (summary_of question v body)
summary_of question v Break = breaking
summary_of question v Continue = continuing
summary_of question v Stop = stopping

-- the summary of what was gone through, and then of a piece; where nothing happens it stays as it is
abbrev pub with_mark : Mark → Summary → Summary
with_mark Kept whole = whole
with_mark Yes whole = then_of whole (marked Yes)
with_mark No whole = then_of whole (marked No)

abbrev pub with_use : Bool → Span → Summary → Summary
with_use true span whole = then_of whole (used span)
with_use false span whole = whole

abbrev pub run : Question → ℕ → Summary → Flow → Summary
run question v whole Nothing = whole
run question v whole (Does event) = with_mark (mark_of question v event) whole
run question v whole (Uses w span) = with_use (w == v) span whole
run question v whole (Part span) = then_of whole (part_moved span)
run question v whole (Then a b) = run question v (run question v whole a) b
run question v whole (Either a b) = then_of whole (either_of (run question v (marked Kept) a) (run question v (marked Kept) b))
run question v whole (Loop head leaves body) = then_of whole (loop_of (run question v (marked Kept) head) leaves (run question v (marked Kept) body))
run question v whole Break = then_of whole breaking
run question v whole Continue = then_of whole continuing
run question v whole Stop = then_of whole stopping

-- the summary, where the answer is `now` before the piece
abbrev pub given : Bool → Marks
given true = only Yes
given false = only No

abbrev pub yes_in : Question → ℕ → Bool → Flow → Option Span
yes_in question v now flow = (after (given now) (summary_of question v flow)).yes_use
