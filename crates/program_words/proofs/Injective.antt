-- The same words ask for one command.
use Rattle.std.proofs.Common.{◌≡◌, ℕ, ◌+◌, ◌*◌, ◌^◌, ◌<◌, ◌≤◌, true, get_or, ◌&&◌, List, [], ◌∷◌, refl, ap, sym, ◌∙◌, arith, decimal}
use Rattle.std.specs.Str.Parse.{digits_value}
use Rattle.std.proofs.lemmas.Bool.Decides.{nat_tests}
use Rattle.std.proofs.lemmas.Fmt.{decimal_is_IsNumeral}
use Rattle.program_words.specs.Commands.{Asks, form_words, is_command, is_count, is_form_on_threads, is_helpers, words_of}
use Rattle.program_words.specs.declared.command.Form.{Form}
use Rattle.program_words.specs.declared.command.Form.TheVariants.{Plain, Wire, Json, Summary, Why, Html}
use Rattle.program_words.specs.declared.command.Command.{Command}
use Rattle.program_words.specs.declared.command.Command.TheVariants.{Replay, Make, Demo, Threads, Log, Check, Store, Map}

few : (n : ℕ) → is_count n ≡ true → n < 2 ^ 64
few n h = let k : n ≤ 256 = grind (arith, nat_tests) in omega arith

-- two numbers of one text are one
number : (n m : ℕ) → is_count n ≡ true → is_count m ≡ true → decimal n ≡ decimal m → n ≡ m
number n m h k e = sym ((decimal_is_IsNumeral n (few n h)).1) ∙ ap (digits_value 10) e ∙ (decimal_is_IsNumeral m (few m k)).1

as_count : (n : ℕ) → is_helpers n ≡ true → is_count n ≡ true
as_count n h = grind (arith, nat_tests)

helped : (i j : ℕ) → is_helpers i ≡ true → is_helpers j ≡ true → decimal i ≡ decimal j → i ≡ j
helped i j h k e = number i j (as_count i h) (as_count j k) e

-- the number of helpers of a command is in its range
within : (f : Form) (h : ℕ) → (is_form_on_threads f && is_helpers h) ≡ true → is_helpers h ≡ true
within Plain h k = k
within Wire h k = absurd cc
within Json h k = absurd cc
within Summary h k = k
within Why h k = k
within Html h k = absurd cc

-- the letter of the first word at a place
abbrev letter : ℕ → List (List ℕ) → ℕ
letter i ws = get_or (get_or ws 0 []) i 0

forms : (f g : Form) → ◌≡◌ {A = List (List ℕ)} (form_words f) (form_words g) → f ≡ g
forms Plain Plain e = refl
forms Plain Wire e = cc
forms Plain Json e = cc
forms Plain Summary e = cc
forms Plain Why e = cc
forms Plain Html e = cc
forms Wire Plain e = cc
forms Wire Wire e = refl
forms Wire Json e = let k : ◌≡◌ {A = ℕ} 119 106 = ap (letter 2) e in absurd (omega arith)
forms Wire Summary e = let k : ◌≡◌ {A = ℕ} 119 115 = ap (letter 2) e in absurd (omega arith)
forms Wire Why e = let k : ◌≡◌ {A = ℕ} 105 104 = ap (letter 3) e in absurd (omega arith)
forms Wire Html e = let k : ◌≡◌ {A = ℕ} 119 104 = ap (letter 2) e in absurd (omega arith)
forms Json Plain e = cc
forms Json Wire e = let k : ◌≡◌ {A = ℕ} 106 119 = ap (letter 2) e in absurd (omega arith)
forms Json Json e = refl
forms Json Summary e = let k : ◌≡◌ {A = ℕ} 106 115 = ap (letter 2) e in absurd (omega arith)
forms Json Why e = let k : ◌≡◌ {A = ℕ} 106 119 = ap (letter 2) e in absurd (omega arith)
forms Json Html e = let k : ◌≡◌ {A = ℕ} 106 104 = ap (letter 2) e in absurd (omega arith)
forms Summary Plain e = cc
forms Summary Wire e = let k : ◌≡◌ {A = ℕ} 115 119 = ap (letter 2) e in absurd (omega arith)
forms Summary Json e = let k : ◌≡◌ {A = ℕ} 115 106 = ap (letter 2) e in absurd (omega arith)
forms Summary Summary e = refl
forms Summary Why e = let k : ◌≡◌ {A = ℕ} 115 119 = ap (letter 2) e in absurd (omega arith)
forms Summary Html e = let k : ◌≡◌ {A = ℕ} 115 104 = ap (letter 2) e in absurd (omega arith)
forms Why Plain e = cc
forms Why Wire e = let k : ◌≡◌ {A = ℕ} 104 105 = ap (letter 3) e in absurd (omega arith)
forms Why Json e = let k : ◌≡◌ {A = ℕ} 119 106 = ap (letter 2) e in absurd (omega arith)
forms Why Summary e = let k : ◌≡◌ {A = ℕ} 119 115 = ap (letter 2) e in absurd (omega arith)
forms Why Why e = refl
forms Why Html e = let k : ◌≡◌ {A = ℕ} 119 104 = ap (letter 2) e in absurd (omega arith)
forms Html Plain e = cc
forms Html Wire e = let k : ◌≡◌ {A = ℕ} 104 119 = ap (letter 2) e in absurd (omega arith)
forms Html Json e = let k : ◌≡◌ {A = ℕ} 104 106 = ap (letter 2) e in absurd (omega arith)
forms Html Summary e = let k : ◌≡◌ {A = ℕ} 104 115 = ap (letter 2) e in absurd (omega arith)
forms Html Why e = let k : ◌≡◌ {A = ℕ} 104 119 = ap (letter 2) e in absurd (omega arith)
forms Html Html e = refl

first : (x y : List ℕ) → ◌≡◌ {A = List (List ℕ)} (x ∷ []) (y ∷ []) → x ≡ y
first x y e = cc

head_same : (v w : List ℕ) (x y : List (List ℕ)) → ◌≡◌ {A = List (List ℕ)} (v ∷ x) (w ∷ y) → v ≡ w
head_same v w x y e = cc

tail_same : (v w : List ℕ) (x y : List (List ℕ)) → ◌≡◌ {A = List (List ℕ)} (v ∷ x) (w ∷ y) → x ≡ y
tail_same v w x y e = cc

behind : (w : List ℕ) (x y : List (List ℕ)) → w ∷ x ≡ w ∷ y → x ≡ y
behind w x y e = cc

-- two letters of the first word tell which command it begins
abbrev kind : Command → ℕ
kind c = letter 0 (words_of c) * 256 + letter 2 (words_of c)

abbrev kinds : List (List ℕ) → ℕ
kinds ws = letter 0 ws * 256 + letter 2 ws

is_replay : (d : Command) → kind d ≡ kind (Replay Plain) → (f : Form) × (d ≡ Replay f)
is_replay (Replay f) e = (f, refl)
is_replay d e = absurd (omega arith)

is_make : (d : Command) → kind d ≡ kind (Make 0) → (n : ℕ) × (d ≡ Make n)
is_make (Make n) e = (n, refl)
is_make d e = absurd (omega arith)

is_demo : (d : Command) → kind d ≡ kind (Demo 0) → (n : ℕ) × (d ≡ Demo n)
is_demo (Demo n) e = (n, refl)
is_demo d e = absurd (omega arith)

is_threads : (d : Command) → kind d ≡ kind (Threads 0 Plain) → (h : ℕ) × (f : Form) × (d ≡ Threads h f)
is_threads (Threads h f) e = (h, f, refl)
is_threads d e = absurd (omega arith)

is_log : (d : Command) → kind d ≡ kind Log → d ≡ Log
is_log Log e = refl
is_log d e = absurd (omega arith)

is_check : (d : Command) → kind d ≡ kind Check → d ≡ Check
is_check Check e = refl
is_check d e = absurd (omega arith)

is_store : (d : Command) → kind d ≡ kind Store → d ≡ Store
is_store Store e = refl
is_store d e = absurd (omega arith)

is_map : (d : Command) → kind d ≡ kind Map → d ≡ Map
is_map Map e = refl
is_map d e = absurd (omega arith)

replays : (f g : Form) → words_of (Replay f) ≡ words_of (Replay g) → Replay f ≡ Replay g
replays f g e = ap Replay (forms f g (behind _ _ _ e))

makes : (n m : ℕ) → is_count n ≡ true → is_count m ≡ true → words_of (Make n) ≡ words_of (Make m) → Make n ≡ Make m
makes n m h k e = ap Make (number n m h k (first _ _ (behind _ _ _ e)))

demos : (n m : ℕ) → is_count n ≡ true → is_count m ≡ true → words_of (Demo n) ≡ words_of (Demo m) → Demo n ≡ Demo m
demos n m h k e = ap Demo (number n m h k (first _ _ (behind _ _ _ e)))

threads : (i j : ℕ) (f g : Form) → is_command (Threads i f) ≡ true → is_command (Threads j g) ≡ true → words_of (Threads i f) ≡ words_of (Threads j g) → Threads i f ≡ Threads j g
threads i j f g h k e =
    let rest = behind _ _ _ e in
    let helpers = helped i j (within f i h) (within g j k) (head_same _ _ _ _ rest) in
    let form = forms f g (tail_same _ _ _ _ rest) in
    cc

same : (c d : Command) → is_command c ≡ true → is_command d ≡ true → words_of c ≡ words_of d → c ≡ d
same (Replay f) d h k e =
    let r = is_replay d (sym (ap kinds e)) in
    replays f r.0 (e ∙ ap words_of r.1) ∙ sym r.1
same (Make n) d h k e =
    let r = is_make d (sym (ap kinds e)) in
    makes n r.0 h (sym (ap is_command r.1) ∙ k) (e ∙ ap words_of r.1) ∙ sym r.1
same (Demo n) d h k e =
    let r = is_demo d (sym (ap kinds e)) in
    demos n r.0 h (sym (ap is_command r.1) ∙ k) (e ∙ ap words_of r.1) ∙ sym r.1
same (Threads i f) d h k e =
    let r = is_threads d (sym (ap kinds e)) in
    threads i r.0 f r.1 h (sym (ap is_command r.2) ∙ k) (e ∙ ap words_of r.2) ∙ sym r.2
same Log d h k e = sym (is_log d (sym (ap kinds e)))
same Check d h k e = sym (is_check d (sym (ap kinds e)))
same Store d h k e = sym (is_store d (sym (ap kinds e)))
same Map d h k e = sym (is_map d (sym (ap kinds e)))

pub one_command : (ws : List (List ℕ)) (c d : Command) → Asks ws c → Asks ws d → c ≡ d
one_command ws c d a b = same c d a.within b.within (sym a.words ∙ b.words)
