-- What holds however a call ended before its report, read off each end in turn.
use Rattle.std.proofs.Common.{◌≡◌, ◌≢◌, ◌<◌, ◌⊎◌, inl, inr, ℕ, Option, Some, None, IsSome, Err, List, length, refl, sym, ap, ◌∙◌, subst, arith}
use Rattle.tb_base.specs.Growth.{Grew, GrewByPrefix}
use Rattle.tb_base.proofs.GrowthLaws.{GrewByPrefix-stays, GrewByPrefix-whole, Grew-stays}
use Rattle.tb_base.specs.Outside.{FilesTold, bytes_under}
use Rattle.tb_eval.specs.Run.{whole_run}
use Rattle.tb_mir.specs.declared.mir.Mir.{Mir}
use Rattle.tb_small.specs.Grammar.{IsSmall}
use Rattle.tb_top.specs.declared.halt.Halt.{Halt}
use Rattle.tb_top.specs.declared.halt.Halt.TheVariants as halt
use Rattle.tb_top.specs.Output.{Output, halted, ran, IsSource, IsOutput, Usage, TooLong, NotBuilt, Ran, Tells, EachOutput}
use Rattle.tb_top.specs.Program.{IsProgram}
use Rattle.tb_top.specs.Report.{line_of, status_of}
use Rattle.tb_top.specs.Stages.{Seen, NothingOut, HasRead, HasLowered, RunsTo, CutShort, RanOutAfter, RanOutBefore, TouchesNothing, ReadTooLong, HasNoTree, FailedToRead, ComesTo}
use Rattle.tb_top.specs.Told.{Finds}
use Rattle.tb_top.specs.Words.{file_of}
use Rattle.tb_top.proofs.Programs.{one_program}

-- two equations of one option
same_some : {A : Type 0} (o : Option A) (x y : A) → o ≡ Some x → o ≡ Some y → x ≡ y
same_some o x y p q = let e : Some x ≡ Some y = sym p ∙ q in cc

-- what was read is the one source
pub same_source : (words : List (List ℕ)) (old new : Seen) (source other : List ℕ) → HasRead words old new source → IsSource words old.told other → other ≡ source
same_source words old new source other read is =
    let name : is.name ≡ read.name = same_some (file_of words) is.name read.name is.named read.opened.named in
    let found : bytes_under is.files.files read.name ≡ Some source = subst (λ t. Finds t read.name source) is.tells read.found in
    let under : bytes_under is.files.files read.name ≡ Some other = ap (λ n. bytes_under is.files.files n) (sym name) ∙ is.found in
    same_some (bytes_under is.files.files read.name) other source under found

found_told : (words : List (List ℕ)) (told : Option FilesTold) (name source : List ℕ) → file_of words ≡ Some name → Finds told name source → IsSome told → IsSource words told source
found_told words None name source named found tells = absurd (cc)
found_told words (Some files) name source named found tells = record { name = name; named = named; files = files; tells = refl; found = found }

-- files that tell have it
pub told_source : (words : List (List ℕ)) (old new : Seen) (source : List ℕ) → HasRead words old new source → Tells words old.told → IsSource words old.told source
told_source words old new source read (inl none) = let e : Some read.name ≡ None = sym read.opened.named ∙ none in cc
told_source words old new source read (inr some) = found_told words old.told read.name source read.opened.named read.found some

-- the words name a file, so they are no usage
not_both : (words : List (List ℕ)) (name : List ℕ) → file_of words ≡ Some name → file_of words ≡ None → ⊥
not_both words name p q = let e : Some name ≡ None = sym p ∙ q in cc

-- the output of a call in which nothing failed
pub record Answered (words : List (List ℕ)) (old new : Seen) (why : Halt) : Type 0 where
  pub output : Output
  pub is : IsOutput words old.told output
  pub status : status_of why ≡ output.status
  pub out : Grew old.bytes new.bytes output.out
  pub err : line_of why ≡ output.err

-- nothing went out
answered_halt : (words : List (List ℕ)) (old new : Seen) (why : Halt) → IsOutput words old.told (halted why) → NothingOut old new → Answered words old new why
answered_halt words old new why is out = record { output = halted why; is = is; status = refl; out = Grew-stays old.bytes new.bytes out.bytes; err = refl }

-- what goes out, and the output where nothing failed
pub record Ended (words : List (List ℕ)) (old new : Seen) (why : Halt) : Type 0 where
  pub read_failed : old.read_faults < new.read_faults → why ≡ halt.ReadFault
  pub out_front : EachOutput words old.told (λ output. GrewByPrefix old.bytes new.bytes output.out)
  pub err : EachOutput words old.told (λ output. output.err ≡ line_of why) ⊎ ((status_of why ≡ 6) ⊎ (status_of why ≡ 7) ⊎ (status_of why ≡ 8))
  pub answer : status_of why ≢ 8 → Tells words old.told → new.read_faults ≡ old.read_faults → new.write_faults ≡ old.write_faults → Answered words old new why

-- of a call that put nothing out
quiet : (words : List (List ℕ)) (old new : Seen) → NothingOut old new → EachOutput words old.told (λ output. GrewByPrefix old.bytes new.bytes output.out)
quiet words old new out = λ output is. GrewByPrefix-stays old.bytes new.bytes output.out out.bytes

-- no output of words that name no file has another report
usage_err : (words : List (List ℕ)) (told : Option FilesTold) (output : Output) → file_of words ≡ None → IsOutput words told output → output.err ≡ line_of halt.Usage
usage_err words told output none (Usage e) = refl
usage_err words told output none (TooLong source is size) = absurd (not_both words is.name is.named none)
usage_err words told output none (NotBuilt source is size no_tree) = absurd (not_both words is.name is.named none)
usage_err words told output none (Ran source is size tree related mir program) = absurd (not_both words is.name is.named none)

pub usage_ended : (words : List (List ℕ)) (old new : Seen) → TouchesNothing words old new → Ended words old new halt.Usage
usage_ended words old new h = record {
  read_failed = λ rose. absurd (omega arith);
  out_front = quiet words old new h.out;
  err = inl (λ output is. usage_err words old.told output h.unnamed is);
  answer = λ no tells calm quiet. answered_halt words old new halt.Usage (Usage h.unnamed) h.out;
}

-- no source that is too long has another report
too_long_err : (words : List (List ℕ)) (old new : Seen) (output : Output) → ReadTooLong words old new → IsOutput words old.told output → output.err ≡ line_of halt.TooLong
too_long_err words old new output h (Usage e) = absurd (not_both words h.read.name h.read.opened.named e)
too_long_err words old new output h (TooLong source is size) = refl
too_long_err words old new output h (NotBuilt source is size no_tree) =
    absurd (let e = same_source words old new h.source source h.read is in let l = h.size in let m = ap length e in omega arith)
too_long_err words old new output h (Ran source is size tree related mir program) =
    absurd (let e = same_source words old new h.source source h.read is in let l = h.size in let m = ap length e in omega arith)

pub too_long_ended : (words : List (List ℕ)) (old new : Seen) → ReadTooLong words old new → Ended words old new halt.TooLong
too_long_ended words old new h =
    record {
      read_failed = λ rose. absurd (let e = h.read.faults in omega arith);
      out_front = quiet words old new h.out;
      err = inl (λ output is. too_long_err words old new output h is);
      answer = λ no tells calm quiet. answered_halt words old new halt.TooLong (TooLong h.source (told_source words old new h.source h.read tells) h.size) h.out;
    }

-- no source without a tree has another report
no_tree_err : (words : List (List ℕ)) (old new : Seen) (output : Output) → HasNoTree words old new → IsOutput words old.told output → output.err ≡ line_of halt.NotBuilt
no_tree_err words old new output h (Usage e) = absurd (not_both words h.read.name h.read.opened.named e)
no_tree_err words old new output h (TooLong source is size) =
    absurd (let e = same_source words old new h.source source h.read is in let l = h.size in let m = ap length e in omega arith)
no_tree_err words old new output h (NotBuilt source is size no_tree) = refl
no_tree_err words old new output h (Ran source is size tree related mir program) =
    absurd (h.unrelated tree (subst (λ s. IsSmall s tree) (same_source words old new h.source source h.read is) related))

pub no_tree_ended : (words : List (List ℕ)) (old new : Seen) → HasNoTree words old new → Ended words old new halt.NotBuilt
no_tree_ended words old new h =
    record {
      read_failed = λ rose. absurd (let e = h.read.faults in omega arith);
      out_front = quiet words old new h.out;
      err = inl (λ output is. no_tree_err words old new output h is);
      answer = λ no tells calm quiet. answered_halt words old new halt.NotBuilt (NotBuilt h.source (told_source words old new h.source h.read tells) h.size h.unrelated) h.out;
    }

pub read_fault_ended : (words : List (List ℕ)) (old new : Seen) → FailedToRead words old new → Ended words old new halt.ReadFault
read_fault_ended words old new h =
    record {
      read_failed = λ rose. refl;
      out_front = quiet words old new h.out;
      err = inr (inl refl);
      answer = λ no tells calm quiet. absurd (let r = h.rose in omega arith);
    }

-- the output of a source that was lowered is that of its run
pub lowered_out : (words : List (List ℕ)) (old new : Seen) (source : List ℕ) (mir : Mir) (output : Output) → HasLowered words old new source mir → IsOutput words old.told output → output ≡ ran source (whole_run mir)
lowered_out words old new source mir output h (Usage e) = absurd (not_both words h.read.name h.read.opened.named e)
lowered_out words old new source mir output h (TooLong other is size) =
    absurd (let e = same_source words old new source other h.read is in let l = h.size in let m = ap length e in omega arith)
lowered_out words old new source mir output h (NotBuilt other is size no_tree) =
    absurd (no_tree h.tree (subst (λ s. IsSmall s h.tree) (sym (same_source words old new source other h.read is)) h.related))
lowered_out words old new source mir output h (Ran other is size tree related lowered program) =
    let text : other ≡ source = same_source words old new source other h.read is in
    let trees : tree ≡ h.tree = h.only tree (subst (λ s. IsSmall s tree) text related) in
    let mirs : lowered ≡ mir = one_program h.tree lowered mir (subst (λ t. IsProgram t lowered) trees program) h.program in
    ap (λ s. ran s (whole_run lowered)) text ∙ ap (λ m. ran source (whole_run m)) mirs

-- so a front of what it prints is a front of the output's
front_out : (words : List (List ℕ)) (old new : Seen) (source : List ℕ) (mir : Mir) → HasLowered words old new source mir → GrewByPrefix old.bytes new.bytes (whole_run mir).printed → EachOutput words old.told (λ output. GrewByPrefix old.bytes new.bytes output.out)
front_out words old new source mir h put =
    λ output is. subst (λ (o : Output). GrewByPrefix old.bytes new.bytes o.out) (sym (lowered_out words old new source mir output h is)) put

pub memory_ended : (words : List (List ℕ)) (old new : Seen) → RanOutBefore words old new ⊎ RanOutAfter words old new → Ended words old new halt.Memory
memory_ended words old new (inl h) = record {
  read_failed = λ rose. absurd (let e = h.faults in omega arith);
  out_front = quiet words old new h.out;
  err = inr (inr (inr refl));
  answer = λ no tells calm quiet. absurd (no refl);
}
memory_ended words old new (inr h) = record {
  read_failed = λ rose. absurd (let e = h.lowered.read.faults in omega arith);
  out_front = front_out words old new h.source h.mir h.lowered h.put;
  err = inr (inr (inr refl));
  answer = λ no tells calm quiet. absurd (no refl);
}

pub write_fault_ended : (words : List (List ℕ)) (old new : Seen) → CutShort words old new → Ended words old new halt.WriteFault
write_fault_ended words old new h = record {
  read_failed = λ rose. absurd (let e = h.lowered.read.faults in omega arith);
  out_front = front_out words old new h.source h.mir h.lowered h.put;
  err = inr (inr (inl refl));
  answer = λ no tells calm quiet. absurd (let r = h.rose in omega arith);
}

-- a run that came to an end of its own, which is reported so
pub run_ended : (words : List (List ℕ)) (old new : Seen) (why : Halt) → RunsTo words old new (status_of why) (line_of why) → Ended words old new why
run_ended words old new why h = record {
  read_failed = λ rose. absurd (let e = h.lowered.read.faults in omega arith);
  out_front = front_out words old new h.source h.mir h.lowered (GrewByPrefix-whole old.bytes new.bytes (whole_run h.mir).printed h.put);
  err = inl (λ output is. ap (λ (o : Output). o.err) (lowered_out words old new h.source h.mir output h.lowered is) ∙ h.text);
  answer = λ no tells calm quiet. record {
    output = ran h.source (whole_run h.mir);
    is = Ran h.source (told_source words old new h.source h.lowered.read tells) h.lowered.size h.lowered.tree h.lowered.related h.mir h.lowered.program;
    status = sym h.answer;
    out = h.put;
    err = sym h.text;
  };
}

-- each end in turn
pub ended : (A : Type 0) (words : List (List ℕ)) (old new : Seen) (why : Halt) → ComesTo {A = A} words old new (Err why) → Ended words old new why
ended A words old new halt.Usage h = usage_ended words old new h
ended A words old new halt.TooLong h = too_long_ended words old new h
ended A words old new halt.NotBuilt h = no_tree_ended words old new h
ended A words old new (halt.Undefined report) h = run_ended words old new (halt.Undefined report) h
ended A words old new (halt.Panic report) h = run_ended words old new (halt.Panic report) h
ended A words old new halt.ReadFault h = read_fault_ended words old new h
ended A words old new halt.WriteFault h = write_fault_ended words old new h
ended A words old new halt.Memory h = memory_ended words old new h
