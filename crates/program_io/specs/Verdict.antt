-- What is written of a trace that was checked.
use Rattle.std.specs.Prelude.{ℕ, List, [], ◌∷◌, ◌++◌, codes, decimal}
use Rattle.trace_checker.specs.declared.checked.Checked.{Checked}
use Rattle.trace_checker.specs.declared.checked.Checked.TheVariants.{Bad, Fine}
use Rattle.trace_checker.specs.declared.checked.Why.{Why}
use Rattle.trace_checker.specs.declared.checked.Why.TheVariants.{Agree, Justified, Wire}

-- what a bad entry loses, as a word
abbrev pub why_word : Why → List ℕ
why_word Justified = codes "justified"
why_word Agree = codes "agree"
why_word Wire = codes "wire"

-- one line: the trace is fine, or its first bad entry, by its line, and what it loses
abbrev pub verdict_text : Checked → List ℕ
verdict_text Fine = codes "fine" ++ 10 ∷ []
verdict_text (Bad n why) = codes "bad " ++ decimal n ++ codes " " ++ why_word why ++ 10 ∷ []
