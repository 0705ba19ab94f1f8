-- What the top call promises of a run over a table holds where no input came of the source, where the run left no rows, and where their text was written, or a part of it.
use Rattle.std.proofs.Common.{◌≡◌, ℕ, ◌≤◌, ◌⊎◌, inl, inr, IsTrue, false, List, [], ◌++◌, drop, Option, Some, refl, sym, subst, ◌∙◌, ◌+◌}
use Rattle.std.proofs.Math.Nat.{le_refl}
use Rattle.std.specs.Option.{ForSome}
use Rattle.outside.specs.Faults.{Rose}
use Rattle.dtx_values.specs.declared.limits.TheConstants.{SCRIPT_BYTES}
use Rattle.dtx_values.specs.declared.script.BadCause.{BadCause}
use Rattle.dtx_values.specs.declared.script.Line.{Line}
use Rattle.dtx_model.specs.AtLog.{has_log_line}
use Rattle.dtx_model.specs.Caused.{Of}
use Rattle.dtx_model.specs.Grammar.{IsScript}
use Rattle.dtx_model.specs.Traces.{Placed}
use Rattle.heard_notes.specs.Tables.{table_text}
use Rattle.heard_notes.specs.declared.put.Put.{Put}
use Rattle.put_lines.specs.Input.{IsRefused, ReadsInput}
use Rattle.program_io.specs.InputRead.{RefusesInput}
use Rattle.program_io.specs.Transfer.{IsPartWritten}
use Rattle.program_io.specs.declared.exit.Exit.{Exit}
use Rattle.program_io.specs.declared.exit.Exit.TheVariants.{BadScript, BadTrace, Fine, LogFault, Memory, NotALog, NotThreadable, ReadFault, Usage, WriteFault}
use Rattle.replay_runs.specs.Ending.{AreOwnLogs, IsLog}
use Rattle.replay_runs.specs.LogRun.{MetNoFault}
use Rattle.script_runner.specs.Devices.{ComesUnlessUnread, Telling, devices}
use Rattle.script_runner.specs.Tables.{HasTable, IsBadScript, IsGoodInput, IsTableOf, RunsTable, most_keys}
use Rattle.script_runner.proofs.Refusals.{IsOfText, made_bad, made_done, made_other}

-- bytes are one input or are refused at one line for one cause, by the law of inputs
abbrev pub NeverInput : Type 0
NeverInput = (most : ℕ) (o : Of) (b : List ℕ) (ps : List Put) (s : List Line) (n : ℕ) (c : BadCause) → ReadsInput most o b ps s → IsRefused most o b n c → ⊥

abbrev pub OneRefusal : Type 0
OneRefusal = (most : ℕ) (o : Of) (b : List ℕ) (n m : ℕ) (c d : BadCause) → IsRefused most o b n c → IsRefused most o b m d → (n ≡ m) × (c ≡ d)

same_bad : (n m : ℕ) (c d : BadCause) → (n ≡ m) × (c ≡ d) → BadScript n c ≡ BadScript m d
same_bad n m c d (e, f) = cc

-- the answers of a run over a table
abbrev IsOfTable : Exit → Type 0
IsOfTable x = (x ≡ Fine) ⊎ ((x ≡ ReadFault) ⊎ ((x ≡ LogFault) ⊎ ((x ≡ WriteFault) ⊎ ((x ≡ Memory) ⊎ IsBadScript x))))

module _ (o : Of) where
  -- the answer where no input came of the source is the only one that fits
  cause_answer : OneRefusal → (given : Option (List ℕ)) (x : Exit) → RefusesInput (most_keys o) o given x → (n : ℕ) (c : BadCause) → ForSome given (λ b. IsRefused (most_keys o) o b n c → ComesUnlessUnread (BadScript n c) x)
  cause_answer one given (BadScript m d) h n c b told bad = inl (same_bad m n d c (one (most_keys o) o b m n d c (h b told) bad))
  cause_answer one given ReadFault h n c b told bad = inr (inl refl)
  cause_answer one given Memory h n c b told bad = inr (inr refl)
  cause_answer one given (BadTrace m) h n c b told bad = absurd h
  cause_answer one given (NotThreadable m) h n c b told bad = absurd h
  cause_answer one given Fine h n c b told bad = absurd h
  cause_answer one given Usage h n c b told bad = absurd h
  cause_answer one given LogFault h n c b told bad = absurd h
  cause_answer one given (NotALog p) h n c b told bad = absurd h
  cause_answer one given WriteFault h n c b told bad = absurd h

  input_answer : NeverInput → (given : Option (List ℕ)) (x : Exit) → RefusesInput (most_keys o) o given x → IsGoodInput o given → (x ≡ ReadFault → ⊥) → (x ≡ Fine) ⊎ (x ≡ Memory)
  input_answer either given (BadScript m d) h (b, ps, s, told, reads) calm = absurd (either (most_keys o) o b ps s m d reads (h b told))
  input_answer either given ReadFault h good calm = absurd (calm refl)
  input_answer either given Memory h good calm = inr refl
  input_answer either given (BadTrace m) h good calm = absurd h
  input_answer either given (NotThreadable m) h good calm = absurd h
  input_answer either given Fine h good calm = absurd h
  input_answer either given Usage h good calm = absurd h
  input_answer either given LogFault h good calm = absurd h
  input_answer either given (NotALog p) h good calm = absurd h
  input_answer either given WriteFault h good calm = absurd h

  refused_of_table : (given : Option (List ℕ)) (x : Exit) → RefusesInput (most_keys o) o given x → IsOfTable x
  refused_of_table given (BadScript m d) h = inr (inr (inr (inr (inr (m, d, refl)))))
  refused_of_table given ReadFault h = inr (inl refl)
  refused_of_table given Memory h = inr (inr (inr (inr (inl refl))))
  refused_of_table given (BadTrace m) h = absurd h
  refused_of_table given (NotThreadable m) h = absurd h
  refused_of_table given Fine h = absurd h
  refused_of_table given Usage h = absurd h
  refused_of_table given LogFault h = absurd h
  refused_of_table given (NotALog p) h = absurd h
  refused_of_table given WriteFault h = absurd h

stopped_of_table : (x : Exit) → (x ≡ LogFault) ⊎ (x ≡ Memory) → IsOfTable x
stopped_of_table x (inl e) = inr (inr (inl e))
stopped_of_table x (inr e) = inr (inr (inr (inr (inl e))))

text_of_table : (x : Exit) → IsOfText x → IsOfTable x
text_of_table x (inl e) = inl e
text_of_table x (inr (inl e)) = inr (inr (inr (inl e)))
text_of_table x (inr (inr e)) = inr (inr (inr (inr (inl e))))

-- what runs over a table isn't asked in vain
pub table_asked : (x : Exit) → (x ≡ Fine) ⊎ ((x ≡ ReadFault) ⊎ ((x ≡ LogFault) ⊎ ((x ≡ WriteFault) ⊎ ((x ≡ Memory) ⊎ IsBadScript x)))) → x ≡ Usage → ⊥
table_asked x (inl a) e = cc
table_asked x (inr (inl a)) e = cc
table_asked x (inr (inr (inl a))) e = cc
table_asked x (inr (inr (inr (inl a)))) e = cc
table_asked x (inr (inr (inr (inr (inl a))))) e = cc
table_asked x (inr (inr (inr (inr (inr (n, c, a)))))) e = cc

module _ {S K D : Type 0} (tell : Telling S K D) (o : Of) (either : NeverInput) where
  -- no input came of the source
  pub at_refused_input : OneRefusal → (old new : S) (b : K) (d : D) (x : Exit) → RefusesInput (most_keys o) o (tell.left old) x
      → ((n : ℕ) (c : BadCause) → x ≡ BadScript n c → ForSome (tell.left old) (λ given. tell.left new ≡ Some (drop (SCRIPT_BYTES + 1) given)))
      → (x ≡ ReadFault → Rose (tell.source_faults old) (tell.source_faults new)) → ((x ≡ ReadFault → ⊥) → tell.source_faults new ≡ tell.source_faults old)
      → RunsTable tell o (devices old b d) x (devices new b d)
  at_refused_input one old new b d x refuses judged rose smooth =
      record {
        whole = λ e. absurd (along Fine e);
        cut_short = λ e. absurd (along WriteFault e);
        memory = λ e. inl refl;
        unwritten = λ j. refl;
        answers = refused_of_table o (tell.left old) x refuses;
        read = λ e. absurd (along Fine e);
        judged = λ j. judged j.0 j.1 j.2;
        bad = λ n c e. along (BadScript n c) e;
        bad_refused = λ n c. cause_answer o one (tell.left old) x refuses n c;
        logs = λ h e. inl refl;
        given_up_whole = λ h e calm none. inl refl;
        untouched = λ j. refl;
        faults =
            record {
              read_fault = rose;
              log_fault = λ e. absurd (along LogFault e);
              write_fault = λ e. absurd (along WriteFault e);
              read_smooth = smooth;
              log_grows = λ e. le_refl (tell.disk_faults d);
              write_smooth = λ e. refl;
            };
        done = λ good calm. input_answer o either (tell.left old) x refuses good (λ e. calm.source (rose e));
      }
    where
      along : (y : Exit) → x ≡ y → RefusesInput (most_keys o) o (tell.left old) y
      along y e = subst (λ (z : Exit). RefusesInput (most_keys o) o (tell.left old) z) e refuses

  module _ (ps : List Put) (s : List Line) (old new : S) (d after : D) (read : ForSome (tell.left old) (λ b. ReadsInput (most_keys o) o b ps s)) (script : IsScript s) (smooth : tell.source_faults new ≡ tell.source_faults old)
      (whole : IsTrue tell.honest → MetNoFault tell.disk_faults d after → has_log_line s ≡ false → (after ≡ d) ⊎ IsLog (tell.image after)) where
    -- the run left no rows: the disk met a fault while it was formatted, or memory ran out
    pub at_table_stop : (b : K) (x : Exit) → (x ≡ LogFault) ⊎ (x ≡ Memory) → (x ≡ LogFault → Rose (tell.disk_faults d) (tell.disk_faults after)) → ((x ≡ LogFault → ⊥) → tell.disk_faults d ≤ tell.disk_faults after)
        → (IsTrue tell.honest → (x ≡ LogFault → ⊥) → (after ≡ d) ⊎ AreOwnLogs (tell.image after)) → RunsTable tell o (devices old b d) x (devices new b after)
    at_table_stop b x only rose grows logs =
        record {
          whole = λ e. absurd (neither Fine e (λ l. cc) (λ m. cc));
          cut_short = λ e. absurd (neither WriteFault e (λ l. cc) (λ m. cc));
          memory = λ e. inl refl;
          unwritten = λ j. refl;
          answers = stopped_of_table x only;
          read = λ e. absurd (neither Fine e (λ l. cc) (λ m. cc));
          judged = λ j. absurd (unjudged j);
          bad = λ n c e. absurd (unjudged (n, c, e));
          bad_refused = λ n c given told bad. absurd (either (most_keys o) o given ps s n c (read given told) bad);
          logs = logs;
          given_up_whole = λ h e calm none. whole h calm (none ps s script read);
          untouched = λ j. absurd (elim j [ inl e ↦ neither ReadFault e (λ l. cc) (λ m. cc) | inr i ↦ unjudged i ]);
          faults =
              record {
                read_fault = λ e. absurd (neither ReadFault e (λ l. cc) (λ m. cc));
                log_fault = rose;
                write_fault = λ e. absurd (neither WriteFault e (λ l. cc) (λ m. cc));
                read_smooth = λ e. smooth;
                log_grows = grows;
                write_smooth = λ e. refl;
              };
          done = λ good calm. elim only [ inl e ↦ absurd (calm.disk (rose e)) | inr e ↦ inr e ];
        }
      where
        neither : (y : Exit) → x ≡ y → (LogFault ≡ y → ⊥) → (Memory ≡ y → ⊥) → ⊥
        neither y e log memory = elim only [ inl l ↦ log (sym l ∙ e) | inr m ↦ memory (sym m ∙ e) ]

        unjudged : IsBadScript x → ⊥
        unjudged (n, c, e) = neither (BadScript n c) e (λ l. cc) (λ m. cc)

    module _ (rows : List (ℕ × ℕ)) (T : List Placed) (ran : IsTableOf o s ps (tell.disk_faults d) (tell.disk_faults after) tell.honest rows T) where
      -- the run left these rows
      has_table : (holds : List ℕ → Type 0) → holds (table_text rows) → HasTable o (tell.disk_faults d) (tell.disk_faults after) tell.honest (tell.left old) holds
      has_table holds gained =
          record {
            puts = ps;
            lines = s;
            rows = rows;
            trace = T;
            read = read;
            script = script;
            ran = ran;
            gained = gained;
          }

      -- their text was written, or a part of it
      pub at_table_text : (b c : K) (x : Exit) → IsOfText x → ForSome (tell.left old) (λ given. tell.left new ≡ Some [])
          → (x ≡ Fine → ForSome (tell.written b) (λ t. tell.written c ≡ Some (t ++ table_text rows))) → (x ≡ WriteFault → ForSome (tell.written b) (λ t. IsPartWritten t (table_text rows) (tell.written c)))
          → (x ≡ Memory → (c ≡ b) ⊎ ForSome (tell.written b) (λ t. IsPartWritten t (table_text rows) (tell.written c)))
          → (x ≡ WriteFault → Rose (tell.sink_faults b) (tell.sink_faults c)) → ((x ≡ WriteFault → ⊥) → tell.sink_faults c ≡ tell.sink_faults b)
          → tell.disk_faults d ≤ tell.disk_faults after → (IsTrue tell.honest → (after ≡ d) ⊎ AreOwnLogs (tell.image after)) → RunsTable tell o (devices old b d) x (devices new c after)
      at_table_text b c x answers left all cut memory rose sink_smooth grows logs =
          record {
            whole = λ e. has_table (λ text. ForSome (tell.written b) (λ t. tell.written c ≡ Some (t ++ text))) (all e);
            cut_short = λ e. has_table part (cut e);
            memory = λ e. elim (memory e) [ inl same ↦ inl same | inr short ↦ inr (has_table part short) ];
            unwritten = λ j. absurd (elim j [ inl e ↦ other ReadFault e (λ k. cc) (λ k. cc) (λ k. cc) | inr i ↦ elim i [ inl e ↦ other LogFault e (λ k. cc) (λ k. cc) (λ k. cc) | inr judged ↦ unjudged judged ] ]);
            answers = text_of_table x answers;
            read = λ e. left;
            judged = λ j. absurd (unjudged j);
            bad = λ n c e. absurd (made_bad x answers n c e);
            bad_refused = λ n c given told bad. absurd (either (most_keys o) o given ps s n c (read given told) bad);
            logs = λ h e. logs h;
            given_up_whole = λ h e calm none. whole h calm (none ps s script read);
            untouched = λ j. absurd (elim j [ inl e ↦ other ReadFault e (λ k. cc) (λ k. cc) (λ k. cc) | inr i ↦ unjudged i ]);
            faults =
                record {
                  read_fault = λ e. absurd (other ReadFault e (λ k. cc) (λ k. cc) (λ k. cc));
                  log_fault = λ e. absurd (other LogFault e (λ k. cc) (λ k. cc) (λ k. cc));
                  write_fault = rose;
                  read_smooth = λ e. smooth;
                  log_grows = λ e. grows;
                  write_smooth = sink_smooth;
                };
            done = λ good calm. made_done x answers (λ e. calm.sink (rose e));
          }
        where
          part : List ℕ → Type 0
          part text = ForSome (tell.written b) (λ t. IsPartWritten t text (tell.written c))

          other : (y : Exit) → x ≡ y → (Fine ≡ y → ⊥) → (WriteFault ≡ y → ⊥) → (Memory ≡ y → ⊥) → ⊥
          other y e fine fault memory = made_other x y answers e fine fault memory

          unjudged : IsBadScript x → ⊥
          unjudged j = made_bad x answers j.0 j.1 j.2
