-- What the top call promises of a run of a script holds at each of the three places where one ends: where no script came that can be run, where the run gave no trace, and where its text was written, or a part of it.
use Rattle.std.proofs.Common.{◌≡◌, ℕ, ◌≤◌, ◌⊎◌, inl, inr, arith, IsTrue, false, List, [], ◌++◌, drop, Some, refl, sym, subst, ◌∙◌, ◌+◌}
use Rattle.std.proofs.Math.Nat.{le_refl}
use Rattle.std.specs.Option.{ForSome}
use Rattle.std.specs.Prelude.{true}
use Rattle.outside.specs.Faults.{Rose}
use Rattle.dtx_values.specs.declared.limits.TheConstants.{SCRIPT_BYTES}
use Rattle.dtx_values.specs.declared.script.Line.{Line}
use Rattle.dtx_model.specs.AtLog.{has_log_line}
use Rattle.dtx_model.specs.Grammar.{IsScript, Reads}
use Rattle.dtx_model.specs.Traces.{Placed}
use Rattle.dtx_model.specs.Words.{each}
use Rattle.trace_text.specs.OneTrace.{is_carried_at, is_frame_typed_at, is_got_carried_at, is_typed_at}
use Rattle.program_io.specs.FormText.{form_text}
use Rattle.program_io.specs.Judged.{IsJudged}
use Rattle.program_io.specs.Refusal.{IsRunnable, Refuses}
use Rattle.program_io.specs.Transfer.{IsPartWritten}
use Rattle.program_io.specs.declared.exit.Exit.{Exit}
use Rattle.program_io.specs.declared.exit.Exit.TheVariants.{BadScript, BadTrace, Fine, LogFault, Memory, NotALog, NotThreadable, ReadFault, Usage, WriteFault}
use Rattle.program_io.specs.declared.way.Way.{Way}
use Rattle.program_io.specs.declared.way.Way.TheVariants.{Replay, Threads}
use Rattle.program_words.specs.declared.command.Form.{Form}
use Rattle.replay_runs.specs.Ending.{AreOwnLogs, IsLog}
use Rattle.replay_runs.specs.LogRun.{MetNoFault}
use Rattle.script_runner.specs.Program.{HasRun, IsRunBy}
use Rattle.program_words.specs.declared.command.Command.{Command}
use Rattle.program_words.specs.declared.command.Command.TheVariants.{Replay as AskReplay, Threads as AskThreads, Make as AskMake, Demo as AskDemo, Log as AskLog, Check as AskCheck, Store as AskStore, Map as AskMap}
use Rattle.script_runner.specs.Promises.{Devices, Does, RunsScript, TellsFaults, Telling, devices}
use Rattle.script_runner.proofs.Programs.{NeverBoth}
use Rattle.script_runner.proofs.Refusals.{IsOfText, OneCause, OneScript, bad_answer, bad_never, do_answer, do_never, good_answer, made_bad, made_do, made_done, made_other, not_judged}

-- a script that can be run is one
is_script : (w : Way) (s : List Line) → IsRunnable w s → IsScript s
is_script Replay s runnable = runnable
is_script (Threads h) s runnable = runnable.script

module _ {S K D : Type 0} (tell : Telling S K D) (w : Way) (f : Form) (k : ℕ) (either : NeverBoth) (one : OneScript) where
  -- no script that can be run came of the source
  pub at_refusal : OneCause → (old new : S) (b : K) (d : D) (x : Exit) → Refuses w (tell.left old) x → (IsJudged x → ForSome (tell.left old) (λ given. tell.left new ≡ Some (drop (SCRIPT_BYTES + 1) given)))
      → (x ≡ ReadFault → Rose (tell.source_faults old) (tell.source_faults new)) → ((x ≡ ReadFault → ⊥) → tell.source_faults new ≡ tell.source_faults old)
      → RunsScript tell w f k (devices old b d) x (devices new b d)
  at_refusal cause old new b d x refuses judged rose smooth =
      record {
        writes = record { whole = λ e. absurd (along Fine e); cut_short = λ e. absurd (along WriteFault e); memory = λ e. inl refl; unwritten = λ j. refl };
        input =
            record {
              read = λ e. absurd (along Fine e);
              judged = judged;
              bad = λ n c e. along (BadScript n c) e;
              bad_refused = λ n c. bad_answer either cause w (tell.left old) x refuses n c;
              not_threadable = λ n e. along (NotThreadable n) e;
              do_refused = λ n on. do_answer either one w (tell.left old) x refuses n;
            };
        disk = record { logs = λ h e. inl refl; given_up_whole = λ r h e calm none. inl refl; untouched = λ j. refl };
        faults =
            record {
              read_fault = rose;
              log_fault = λ e. absurd (along LogFault e);
              write_fault = λ e. absurd (along WriteFault e);
              read_smooth = smooth;
              log_grows = λ e. le_refl (tell.disk_faults d);
              write_smooth = λ e. refl;
            };
        done = λ good calm. good_answer either one w (tell.left old) x refuses good (λ e. calm.source (rose e));
        asked = λ e. along Usage e;
        unlisted = λ p e. along (NotALog p) e;
        unchecked = λ n e. along (BadTrace n) e;
      }
    where
      along : (y : Exit) → x ≡ y → Refuses w (tell.left old) y
      along y e = subst (λ (z : Exit). Refuses w (tell.left old) z) e refuses

  module _ (s : List Line) (old new : S) (d after : D) (read : ForSome (tell.left old) (λ b. Reads b s)) (runnable : IsRunnable w s) (smooth : tell.source_faults new ≡ tell.source_faults old) where
    -- the run gave no trace: the disk met a fault while it was formatted, or memory ran out
    pub at_stop : (b : K) (x : Exit) → (x ≡ LogFault) ⊎ (x ≡ Memory) → (x ≡ LogFault → Rose (tell.disk_faults d) (tell.disk_faults after)) → ((x ≡ LogFault → ⊥) → tell.disk_faults d ≤ tell.disk_faults after)
        → (IsTrue tell.honest → (x ≡ LogFault → ⊥) → (after ≡ d) ⊎ AreOwnLogs (tell.image after))
        → (w ≡ Replay → IsTrue tell.honest → MetNoFault tell.disk_faults d after → has_log_line s ≡ false → (after ≡ d) ⊎ IsLog (tell.image after))
        → RunsScript tell w f k (devices old b d) x (devices new b after)
    at_stop b x only rose grows logs whole =
        record {
          writes = record { whole = λ e. absurd (neither Fine e (λ l. cc) (λ m. cc)); cut_short = λ e. absurd (neither WriteFault e (λ l. cc) (λ m. cc)); memory = λ e. inl refl; unwritten = λ j. refl };
          input =
              record {
                read = λ e. absurd (neither Fine e (λ l. cc) (λ m. cc));
                judged = λ j. absurd (unjudged j);
                bad = λ n c e. absurd (neither (BadScript n c) e (λ l. cc) (λ m. cc));
                bad_refused = λ n c given told bad. absurd (bad_never either (tell.left old) s read n c given told bad);
                not_threadable = λ n e. absurd (neither (NotThreadable n) e (λ l. cc) (λ m. cc));
                do_refused = λ n on given told at. absurd (do_never one w (tell.left old) s read runnable n on given told at);
              };
          disk =
              record {
                logs = logs;
                given_up_whole = λ r h e calm none. whole r h calm (none s (is_script w s runnable) read);
                untouched = λ j. absurd (elim j [ inl e ↦ neither ReadFault e (λ l. cc) (λ m. cc) | inr i ↦ unjudged i ]);
              };
          faults =
              record {
                read_fault = λ e. absurd (neither ReadFault e (λ l. cc) (λ m. cc));
                log_fault = rose;
                write_fault = λ e. absurd (neither WriteFault e (λ l. cc) (λ m. cc));
                read_smooth = λ e. smooth;
                log_grows = grows;
                write_smooth = λ e. refl;
              };
          done = λ good calm. elim only [ inl e ↦ absurd (calm.disk (rose e)) | inr e ↦ inr e ];
          asked = λ e. neither Usage e (λ l. cc) (λ m. cc);
          unlisted = λ p e. neither (NotALog p) e (λ l. cc) (λ m. cc);
          unchecked = λ n e. neither (BadTrace n) e (λ l. cc) (λ m. cc);
        }
      where
        neither : (y : Exit) → x ≡ y → (LogFault ≡ y → ⊥) → (Memory ≡ y → ⊥) → ⊥
        neither y e log memory = elim only [ inl l ↦ log (sym l ∙ e) | inr m ↦ memory (sym m ∙ e) ]

        unjudged : IsJudged x → ⊥
        unjudged j = not_judged x (λ n c e. neither (BadScript n c) e (λ l. cc) (λ m. cc)) (λ n e. neither (NotThreadable n) e (λ l. cc) (λ m. cc)) j

    module _ (T : List Placed) (run : IsRunBy w k (tell.disk_faults d) (tell.disk_faults after) tell.honest (tell.image after) s T)
        (typed : each is_typed_at T ≡ true) (frame_typed : each is_frame_typed_at T ≡ true) (carried : each is_carried_at T ≡ true) (got_carried : each is_got_carried_at T ≡ true) where
      -- the run has this trace
      has_run : (holds : List Line → List Placed → Type 0) → holds s T → HasRun (IsRunBy w k (tell.disk_faults d) (tell.disk_faults after) tell.honest (tell.image after)) (tell.left old) holds
      has_run holds gained =
          record {
            lines = s;
            trace = T;
            read = read;
            script = is_script w s runnable;
            ran = run;
            typed = typed;
            frame_typed = frame_typed;
            carried = carried;
            got_carried = got_carried;
            gained = gained;
          }

      -- the text of the trace was written, or a part of it
      pub at_text : (b c : K) (x : Exit) → IsOfText x → ForSome (tell.left old) (λ given. tell.left new ≡ Some [])
          → (x ≡ Fine → ForSome (tell.written b) (λ t. tell.written c ≡ Some (t ++ form_text f s T))) → (x ≡ WriteFault → ForSome (tell.written b) (λ t. IsPartWritten t (form_text f s T) (tell.written c)))
          → (x ≡ Memory → (c ≡ b) ⊎ ForSome (tell.written b) (λ t. IsPartWritten t (form_text f s T) (tell.written c)))
          → (x ≡ WriteFault → Rose (tell.sink_faults b) (tell.sink_faults c)) → ((x ≡ WriteFault → ⊥) → tell.sink_faults c ≡ tell.sink_faults b)
          → tell.disk_faults d ≤ tell.disk_faults after → (IsTrue tell.honest → (after ≡ d) ⊎ AreOwnLogs (tell.image after))
          → (w ≡ Replay → IsTrue tell.honest → MetNoFault tell.disk_faults d after → has_log_line s ≡ false → (after ≡ d) ⊎ IsLog (tell.image after))
          → RunsScript tell w f k (devices old b d) x (devices new c after)
      at_text b c x answers left all cut memory rose sink_smooth grows logs whole =
          record {
            writes =
                record {
                  whole = λ e. has_run written (all e);
                  cut_short = λ e. has_run part (cut e);
                  memory = λ e. elim (memory e) [ inl same ↦ inl same | inr short ↦ inr (has_run part short) ];
                  unwritten = λ j. absurd (elim j [ inl e ↦ other ReadFault e (λ k. cc) (λ k. cc) (λ k. cc) | inr i ↦ elim i [ inl e ↦ other LogFault e (λ k. cc) (λ k. cc) (λ k. cc) | inr judged ↦ unjudged judged ] ]);
                };
            input =
                record {
                  read = λ e. left;
                  judged = λ j. absurd (unjudged j);
                  bad = λ n c e. absurd (made_bad x answers n c e);
                  bad_refused = λ n c given told bad. absurd (bad_never either (tell.left old) s read n c given told bad);
                  not_threadable = λ n e. absurd (made_do x answers n e);
                  do_refused = λ n on given told at. absurd (do_never one w (tell.left old) s read runnable n on given told at);
                };
            disk =
                record {
                  logs = λ h e. logs h;
                  given_up_whole = λ r h e calm none. whole r h calm (none s (is_script w s runnable) read);
                  untouched = λ j. absurd (elim j [ inl e ↦ other ReadFault e (λ k. cc) (λ k. cc) (λ k. cc) | inr i ↦ unjudged i ]);
                };
            faults =
                record {
                  read_fault = λ e. absurd (other ReadFault e (λ k. cc) (λ k. cc) (λ k. cc));
                  log_fault = λ e. absurd (other LogFault e (λ k. cc) (λ k. cc) (λ k. cc));
                  write_fault = rose;
                  read_smooth = λ e. smooth;
                  log_grows = λ e. grows;
                  write_smooth = sink_smooth;
                };
            done = λ good calm. made_done x answers (λ e. calm.sink (rose e));
            asked = λ e. other Usage e (λ k. cc) (λ k. cc) (λ k. cc);
            unlisted = λ p e. other (NotALog p) e (λ k. cc) (λ k. cc) (λ k. cc);
            unchecked = λ n e. other (BadTrace n) e (λ k. cc) (λ k. cc) (λ k. cc);
          }
        where
          written : List Line → List Placed → Type 0
          written r U = ForSome (tell.written b) (λ t. tell.written c ≡ Some (t ++ form_text f r U))

          part : List Line → List Placed → Type 0
          part r U = ForSome (tell.written b) (λ t. IsPartWritten t (form_text f r U) (tell.written c))

          other : (y : Exit) → x ≡ y → (Fine ≡ y → ⊥) → (WriteFault ≡ y → ⊥) → (Memory ≡ y → ⊥) → ⊥
          other y e fine fault memory = made_other x y answers e fine fault memory

          unjudged : IsJudged x → ⊥
          unjudged j = not_judged x (made_bad x answers) (made_do x answers) j

-- each command tells its faults
pub faults_of : {S K D : Type 0} (tell : Telling S K D) (c : Command) (k : ℕ) (old : Devices S K D) (x : Exit) (new : Devices S K D) → Does tell c k old x new → TellsFaults tell old x new
faults_of tell (AskReplay f) k old x new does = does.faults
faults_of tell (AskThreads h f) k old x new does = does.faults
faults_of tell (AskMake n) k old x new does = does.faults
faults_of tell (AskDemo n) k old x new does = does.faults
faults_of tell AskLog k old x new does = does.faults
faults_of tell AskCheck k old x new does = does.faults
faults_of tell AskStore k old x new does = (does (record { value = 1; in_range = (omega arith, omega arith) }) refl).faults
faults_of tell AskMap k old x new does = does.faults

-- where nothing is done, there is none
pub no_faults : {S K D : Type 0} (tell : Telling S K D) (old : Devices S K D) → TellsFaults tell old Usage old
no_faults tell old =
    record {
      read_fault = λ e. absurd cc;
      log_fault = λ e. absurd cc;
      write_fault = λ e. absurd cc;
      read_smooth = λ e. refl;
      log_grows = λ e. le_refl (tell.disk_faults old.disk);
      write_smooth = λ e. refl;
    }
