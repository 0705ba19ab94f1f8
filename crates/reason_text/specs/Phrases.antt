-- The words of a reason: phrases, each a name or a number and the words after it.
use Rattle.std.specs.Prelude.{ℕ, ◌++◌, [], List, Some, None, codes, decimal}
use Rattle.std.specs.List.{flat_map}
use Rattle.dtx_model.specs.Grammar.{actor_name, clone_name, connection_word, enlistment_name, scope_name, transaction_name}
use Rattle.reason_text.specs.declared.phrases.Head.{Head}
use Rattle.reason_text.specs.declared.phrases.Head.TheVariants.{Caller, Clone, Connection, Enlistment, Nothing, Number, Scope, Transaction}

abbrev pub head_text : Head → List ℕ
head_text Nothing = []
head_text (Number n) = decimal n
head_text (Transaction t) = transaction_name t.value
head_text (Caller (Some c)) = actor_name c.actor.value
head_text (Caller None) = codes "nobody"
head_text (Enlistment (Some e)) = enlistment_name e.value
head_text (Enlistment None) = codes "a durable"
head_text (Clone (Some c)) = clone_name c.value
head_text (Clone None) = codes "a clone"
head_text (Scope q) = scope_name q.value
head_text (Connection c) = connection_word c

-- a phrase: a name or a number, and words
abbrev pub Phrase : Type 0
Phrase = Head × List ℕ

abbrev pub phrase_text : Phrase → List ℕ
phrase_text x = head_text x.0 ++ x.1

-- phrases after each other
abbrev pub phrases_text : List Phrase → List ℕ
phrases_text xs = flat_map phrase_text xs
