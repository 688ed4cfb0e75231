-- How the answers of parts are the answer of the whole.
use Rattle.std.proofs.Common.{◌≡◌, refl, ap, subst, inl, inr, ℕ, ◌+◌, ◌<◌, ◌≤◌, Bool, true, false, cond, nat_lt, Option, Some, None, Result, Ok, Err, OnOk, OnErr, IfOk, IsErrOf, arith}
use Rattle.std.proofs.lemmas.Bool.{ltb-true, ltb-false}
use Rattle.tb_perm.specs.declared.span.Span.{Span}
use Rattle.tb_perm.specs.declared.tag.Prov.{Prov}
use Rattle.tb_perm.specs.declared.tag.Tag.{Tag}
use Rattle.tb_perm.specs.declared.report.Report.{Report}
use Rattle.tb_perm.specs.declared.report.TreeError.{TreeError}
use Rattle.tb_perm.specs.declared.report.TreeError.TheVariants as tree_error
use Rattle.tb_perm.specs.Answer.{Answers as TreeAnswers, OnBorrow}
use Rattle.tb_alloc.specs.declared.allocation.AllocKind.{AllocKind}
use Rattle.tb_alloc.specs.declared.ptr.Ptr.{Ptr}
use Rattle.tb_alloc.specs.declared.faults.AllocError.{AllocError}
use Rattle.tb_alloc.specs.declared.faults.AllocError.TheVariants as alloc_error
use Rattle.tb_alloc.specs.Allocations.{live_bytes_of, live_limit}
use Rattle.tb_events.specs.Memory.{RunMemory, with_made, made_pointer}
use Rattle.tb_memory.specs.declared.stop.Stop.{Stop}
use Rattle.tb_memory.specs.declared.stop.Stop.TheVariants.{Borrow, LiveLimit, Memory}
use Rattle.tb_memory.specs.Heap.{Came, Done, Stopped, and_then, unless_refused, made}
use Rattle.tb_memory.specs.Answers.{Answers, told, told_made}

-- a tree was asked
pub tree_answers : {A : Type 0} (memory now after : RunMemory) (prov : Prov) (report : Option Report) (result : Result (Unit {0}) TreeError) (answer : A) → TreeAnswers report result → OnOk result (now ≡ after) → OnBorrow result (now ≡ memory)
    → Answers (unless_refused memory prov report (Done after answer)) (told prov.alloc answer result) now
tree_answers memory now after prov None (Ok done) answer h moved same = inr (refl, moved)
tree_answers memory now after prov (Some report) (Ok done) answer h moved same = absurd h
tree_answers memory now after prov None (Err (tree_error.Borrow told)) answer h moved same = absurd h
tree_answers memory now after prov (Some report) (Err (tree_error.Borrow told)) answer h moved same = inr (ap (λ (r : Report). Borrow prov.alloc r) h, same)
tree_answers memory now after prov None (Err tree_error.Memory) answer h moved same = inl refl
tree_answers memory now after prov (Some report) (Err tree_error.Memory) answer h moved same = inl refl

-- an allocation was asked for
pub made_answers : (memory now : RunMemory) (size align : ℕ) (kind : AllocKind) (span : Span) (result : Result Ptr AllocError) → IfOk result (λ ptr. ptr ≡ made_pointer memory align) → OnOk result (now ≡ with_made memory size align kind span)
    → (IsErrOf result alloc_error.LiveLimit → live_limit < live_bytes_of memory.table + size) → OnOk result (live_bytes_of memory.table + size ≤ live_limit) → OnErr result (now ≡ memory) → Answers (made memory size align kind span) (told_made result) now
made_answers memory now size align kind span (Ok ptr) pointer moved limit fits same = by_test (nat_lt live_limit (live_bytes_of memory.table + size)) refl
  where
    by_test : (b : Bool) → nat_lt live_limit (live_bytes_of memory.table + size) ≡ b
        → Answers (cond b (Stopped memory LiveLimit) (Done (with_made memory size align kind span) (made_pointer memory align))) (Ok ptr) now
    by_test true e = let past : live_limit < live_bytes_of memory.table + size = ltb-true _ _ e in absurd (omega arith)
    by_test false e = inr (pointer, moved)
made_answers memory now size align kind span (Err alloc_error.LiveLimit) pointer moved limit fits same = by_test (nat_lt live_limit (live_bytes_of memory.table + size)) refl
  where
    by_test : (b : Bool) → nat_lt live_limit (live_bytes_of memory.table + size) ≡ b
        → Answers (cond b (Stopped memory LiveLimit) (Done (with_made memory size align kind span) (made_pointer memory align))) (Err LiveLimit) now
    by_test true e = inr (refl, same)
    by_test false e = let past : live_limit < live_bytes_of memory.table + size = limit refl in let fit : live_bytes_of memory.table + size ≤ live_limit = ltb-false _ _ e in absurd (omega arith)
made_answers memory now size align kind span (Err alloc_error.Memory) pointer moved limit fits same = inl refl

-- a part was done, and then the rest answers
pub then_answers : {A B : Type 0} (came : Came A) (next : RunMemory → A → Came B) (answer : A) (result : Result B Stop) (mid now : RunMemory) → Answers came (Ok answer) mid → Answers (next mid answer) result now → Answers (and_then came next) result now
then_answers (Done memory value) next answer result mid now (inl e) k = absurd cc
then_answers (Done memory value) next answer result mid now (inr e) k =
    subst (λ (m : RunMemory). Answers (next m value) result now) e.1 (subst (λ a. Answers (next mid a) result now) e.0 k)
then_answers (Stopped memory stop) next answer result mid now (inl e) k = absurd cc
then_answers (Stopped memory stop) next answer result mid now (inr e) k = absurd e

-- a part stopped
pub stop_answers : {A B : Type 0} (came : Came A) (next : RunMemory → A → Came B) (stop : Stop) (now : RunMemory) → Answers came (Err stop) now → Answers (and_then came next) (Err stop) now
stop_answers (Done memory value) next stop now (inl e) = inl (let same : stop ≡ Memory = cc in ap Err same)
stop_answers (Done memory value) next stop now (inr e) = absurd e
stop_answers (Stopped memory told) next stop now (inl e) = inl (let same : stop ≡ Memory = cc in ap Err same)
stop_answers (Stopped memory told) next stop now (inr e) = inr e

-- a tag is its number
pub tag_is : (tag : Tag) (n : ℕ) → tag.0 ≡ n → tag ≡ record { 0 = n }
tag_is tag n e = ap {B = Tag} (λ k. record { 0 = k }) e
