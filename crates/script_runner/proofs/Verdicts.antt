-- What the top call promises of a check holds where no trace came of the source, and where what was found of it was written, or a part of it.
use Rattle.std.proofs.Common.{◌≡◌, ℕ, ◌⊎◌, inl, inr, List, [], ◌++◌, drop, Option, Some, refl, subst, ◌+◌}
use Rattle.std.proofs.Math.Nat.{le_refl}
use Rattle.std.specs.Option.{ForSome}
use Rattle.outside.specs.Faults.{Rose}
use Rattle.dtx_model.specs.Traces.{Placed}
use Rattle.program_io.specs.TraceRead.{IsBadTraceLine, IsTraceWithin, RefusesTrace}
use Rattle.program_io.specs.Transfer.{IsPartWritten}
use Rattle.program_io.specs.Verdict.{verdict_text}
use Rattle.program_io.specs.declared.checking.TheConstants.{TRACE_BYTES}
use Rattle.program_io.specs.declared.exit.Exit.{Exit}
use Rattle.program_io.specs.declared.exit.Exit.TheVariants.{BadScript, BadTrace, Fine, LogFault, Memory, NotALog, NotThreadable, ReadFault, Usage, WriteFault}
use Rattle.trace_checker.specs.Keeps.{IsChecked}
use Rattle.trace_checker.specs.declared.checked.Checked.{Checked}
use Rattle.script_runner.specs.Promises.{ChecksTrace, ComesUnlessUnread, IsGoodTrace, Telling, devices}
use Rattle.script_runner.proofs.Refusals.{IsOfText, made_done, made_other}

-- bytes are one trace's or have one first bad line, by the law of checks
abbrev pub NeverTrace : Type 0
NeverTrace = (most : ℕ) (b : List ℕ) (T : List Placed) (n : ℕ) → IsTraceWithin most b T → IsBadTraceLine most b n → ⊥

abbrev pub OneBadLine : Type 0
OneBadLine = (most : ℕ) (b : List ℕ) (n m : ℕ) → IsBadTraceLine most b n → IsBadTraceLine most b m → n ≡ m

-- the answer where no trace came of the source is the only one that fits
line_answer : OneBadLine → (given : Option (List ℕ)) (x : Exit) → RefusesTrace TRACE_BYTES given x → (n : ℕ) → ForSome given (λ b. IsBadTraceLine TRACE_BYTES b n → ComesUnlessUnread (BadTrace n) x)
line_answer one given (BadTrace m) h n b told bad = let same = one TRACE_BYTES b m n (h b told) bad in inl cc
line_answer one given ReadFault h n b told bad = inr (inl refl)
line_answer one given Memory h n b told bad = inr (inr refl)
line_answer one given (BadScript m c) h n b told bad = absurd h
line_answer one given (NotThreadable m) h n b told bad = absurd h
line_answer one given Fine h n b told bad = absurd h
line_answer one given Usage h n b told bad = absurd h
line_answer one given LogFault h n b told bad = absurd h
line_answer one given (NotALog p) h n b told bad = absurd h
line_answer one given WriteFault h n b told bad = absurd h

trace_answer : NeverTrace → (given : Option (List ℕ)) (x : Exit) → RefusesTrace TRACE_BYTES given x → IsGoodTrace given → (x ≡ ReadFault → ⊥) → (x ≡ Fine) ⊎ (x ≡ Memory)
trace_answer either given (BadTrace m) h (b, T, told, reads) calm = absurd (either TRACE_BYTES b T m reads (h b told))
trace_answer either given ReadFault h good calm = absurd (calm refl)
trace_answer either given Memory h good calm = inr refl
trace_answer either given (BadScript m c) h good calm = absurd h
trace_answer either given (NotThreadable m) h good calm = absurd h
trace_answer either given Fine h good calm = absurd h
trace_answer either given Usage h good calm = absurd h
trace_answer either given LogFault h good calm = absurd h
trace_answer either given (NotALog p) h good calm = absurd h
trace_answer either given WriteFault h good calm = absurd h

-- the answers of a check
abbrev IsOfCheck : Exit → Type 0
IsOfCheck x = (x ≡ Fine) ⊎ ((x ≡ ReadFault) ⊎ ((x ≡ WriteFault) ⊎ ((x ≡ Memory) ⊎ ((n : ℕ) × (x ≡ BadTrace n)))))

refused_of_check : (given : Option (List ℕ)) (x : Exit) → RefusesTrace TRACE_BYTES given x → IsOfCheck x
refused_of_check given (BadTrace m) h = inr (inr (inr (inr (m, refl))))
refused_of_check given ReadFault h = inr (inl refl)
refused_of_check given Memory h = inr (inr (inr (inl refl)))
refused_of_check given (BadScript m c) h = absurd h
refused_of_check given (NotThreadable m) h = absurd h
refused_of_check given Fine h = absurd h
refused_of_check given Usage h = absurd h
refused_of_check given LogFault h = absurd h
refused_of_check given (NotALog p) h = absurd h
refused_of_check given WriteFault h = absurd h

text_of_check : (x : Exit) → IsOfText x → IsOfCheck x
text_of_check x (inl e) = inl e
text_of_check x (inr (inl e)) = inr (inr (inl e))
text_of_check x (inr (inr e)) = inr (inr (inr (inl e)))

module _ {S K D : Type 0} (tell : Telling S K D) (old new : S) (d : D) where
  -- no trace came of the source
  pub at_bad_trace : NeverTrace → OneBadLine → (b : K) (x : Exit) → RefusesTrace TRACE_BYTES (tell.left old) x
      → ((n : ℕ) → x ≡ BadTrace n → ForSome (tell.left old) (λ given. tell.left new ≡ Some (drop (TRACE_BYTES + 1) given)))
      → (x ≡ ReadFault → Rose (tell.source_faults old) (tell.source_faults new)) → ((x ≡ ReadFault → ⊥) → tell.source_faults new ≡ tell.source_faults old)
      → ChecksTrace tell (devices old b d) x (devices new b d)
  at_bad_trace either one b x refuses judged rose smooth =
      record {
        whole = λ e. absurd (along Fine e);
        cut_short = λ e. absurd (along WriteFault e);
        memory = λ e. inl refl;
        unwritten = λ j. refl;
        answers = refused_of_check (tell.left old) x refuses;
        read = λ e. absurd (along Fine e);
        judged = judged;
        bad = λ n e. along (BadTrace n) e;
        bad_refused = λ n. line_answer one (tell.left old) x refuses n;
        untouched = refl;
        faults =
            record {
              read_fault = rose;
              log_fault = λ e. absurd (along LogFault e);
              write_fault = λ e. absurd (along WriteFault e);
              read_smooth = smooth;
              log_grows = λ e. le_refl (tell.disk_faults d);
              write_smooth = λ e. refl;
            };
        done = λ good calm. trace_answer either (tell.left old) x refuses good (λ e. calm.source (rose e));
      }
    where
      along : (y : Exit) → x ≡ y → RefusesTrace TRACE_BYTES (tell.left old) y
      along y e = subst (λ (z : Exit). RefusesTrace TRACE_BYTES (tell.left old) z) e refuses

  -- what was found was written, or a part of it
  pub at_verdict : NeverTrace → (T : List Placed) → ForSome (tell.left old) (λ given. IsTraceWithin TRACE_BYTES given T) → ForSome (tell.left old) (λ given. tell.left new ≡ Some []) → tell.source_faults new ≡ tell.source_faults old
      → (b c : K) (x : Exit) → IsOfText x
      → (x ≡ Fine → (v : Checked) × IsChecked T v × ForSome (tell.written b) (λ w. tell.written c ≡ Some (w ++ verdict_text v)))
      → (x ≡ WriteFault → (v : Checked) × IsChecked T v × ForSome (tell.written b) (λ w. IsPartWritten w (verdict_text v) (tell.written c)))
      → (x ≡ Memory → (c ≡ b) ⊎ ((v : Checked) × IsChecked T v × ForSome (tell.written b) (λ w. IsPartWritten w (verdict_text v) (tell.written c))))
      → (x ≡ WriteFault → Rose (tell.sink_faults b) (tell.sink_faults c)) → ((x ≡ WriteFault → ⊥) → tell.sink_faults c ≡ tell.sink_faults b)
      → ChecksTrace tell (devices old b d) x (devices new c d)
  at_verdict either T read left smooth b c x answers all cut memory rose sink_smooth =
      record {
        whole = λ e. let v = all e in record { trace = T; verdict = v.0; read = read; checked = v.1; gained = v.2 };
        cut_short = λ e. let v = cut e in record { trace = T; verdict = v.0; read = read; checked = v.1; gained = v.2 };
        memory = λ e. elim (memory e) [ inl same ↦ inl same | inr v ↦ inr (record { trace = T; verdict = v.0; read = read; checked = v.1; gained = v.2 }) ];
        unwritten = λ j. absurd (elim j [ inl e ↦ other ReadFault e (λ k. cc) (λ k. cc) (λ k. cc) | inr i ↦ other (BadTrace i.0) i.1 (λ k. cc) (λ k. cc) (λ k. cc) ]);
        answers = text_of_check x answers;
        read = λ e. left;
        judged = λ n e. absurd (other (BadTrace n) e (λ k. cc) (λ k. cc) (λ k. cc));
        bad = λ n e. absurd (other (BadTrace n) e (λ k. cc) (λ k. cc) (λ k. cc));
        bad_refused = λ n given told bad. absurd (either TRACE_BYTES given T n (read given told) bad);
        untouched = refl;
        faults =
            record {
              read_fault = λ e. absurd (other ReadFault e (λ k. cc) (λ k. cc) (λ k. cc));
              log_fault = λ e. absurd (other LogFault e (λ k. cc) (λ k. cc) (λ k. cc));
              write_fault = rose;
              read_smooth = λ e. smooth;
              log_grows = λ e. le_refl (tell.disk_faults d);
              write_smooth = sink_smooth;
            };
        done = λ good calm. made_done x answers (λ e. calm.sink (rose e));
      }
    where
      other : (y : Exit) → x ≡ y → (Fine ≡ y → ⊥) → (WriteFault ≡ y → ⊥) → (Memory ≡ y → ⊥) → ⊥
      other y e fine fault memory = made_other x y answers e fine fault memory
