-- A message that was just read, of a stream of which none is kept: it is given as if it were kept behind the others,
-- and given from there.
use Rattle.std.proofs.Common.{◌≡◌, refl, ap, sym, ◌∙◌, subst, ℕ, true, List, [], ◌∷◌, ◌++◌, length}
use Rattle.std.proofs.Common.{Option, Some, None, arith, ◌==◌, remove}
use Rattle.std.proofs.lemmas.Bool.Decides.{nat_tests}
use Rattle.std.proofs.lemmas.Grind.{common_steps}
use Rattle.sctp_receive_queues.specs.Messages.{ReceivedMessage}
use Rattle.sctp_assoc.specs.Calls.{read_from_stream}
use Rattle.sctp_assoc.specs.Shown.{Shown}
use Rattle.sctp_driver.specs.declared.messages.ReadAnswer.{ReadAnswer}
use Rattle.sctp_driver.specs.declared.messages.ReadAnswer.TheVariants as answers
use Rattle.sctp_driver.specs.Driving.{Driving, KeptMessage}
use Rattle.sctp_driver.specs.Messages.{Gives, GivesAt, GivesNew, GivesOne, Reads, index_of, keeping, kept_of}
use Rattle.sctp_driver.specs.Messages.{message_at, with_message, with_message_at}

same_number : (n : ℕ) → (n == n) ≡ true
same_number n = grind (arith, nat_tests)

last_is_first : (kept : List KeptMessage) (m : KeptMessage) → index_of m.stream kept ≡ None
    → index_of m.stream (kept ++ m ∷ []) ≡ Some (length kept)
last_is_first [] m none = grind (arith, nat_tests, common_steps, same_number m.stream)
last_is_first (k ∷ kept) m none =
    grind (arith, nat_tests, common_steps, none, last_is_first kept m, same_number m.stream)

-- m is kept behind the others
module _ (m : KeptMessage) (kept : List KeptMessage) where
  last_at : message_at (kept ++ m ∷ []) (length kept) ≡ m
  last_at = grind (arith, common_steps)

  last_removed : remove (kept ++ m ∷ []) (length kept) ≡ kept
  last_removed = grind (arith, common_steps)

  module _ (buffer filled : List ℕ) (left : List KeptMessage) where
    given_last : (answer : ReadAnswer) → GivesNew m kept buffer answer left filled
        → GivesOne m (length kept) (kept ++ m ∷ []) buffer answer left filled
    given_last (answers.Message kind n) (kind_is, n_is, fits, left_is, filled_is) =
        (kind_is, n_is, fits, left_is ∙ sym last_removed, filled_is)
    given_last (answers.NoRoom n) given = given
    given_last answers.Nothing given = absurd given

    given_as_kept : (answer : ReadAnswer) → index_of m.stream kept ≡ None → GivesNew m kept buffer answer left filled
        → Gives m.stream (kept ++ m ∷ []) buffer answer left filled
    given_as_kept answer none given =
        subst (λ (o : Option ℕ). GivesAt o (kept ++ m ∷ []) buffer answer left filled) (sym (last_is_first kept m none))
        (subst (λ (x : KeptMessage). GivesOne x (length kept) (kept ++ m ∷ []) buffer answer left filled)
        (sym last_at) (given_last answer given))

-- No message of the stream is kept, so that the association is asked for one: it gives `message` and is `a` then.
module _ (d : Driving) (id : ℕ) (none : index_of id d.kept ≡ None) {a : Shown} {message : ReceivedMessage}
    (answered : read_from_stream d.association id ≡ (a, Some message))
  where
    asked_then : with_message d id ≡ keeping d id (a, Some message)
    asked_then = ap (λ (o : Option ℕ). with_message_at o d id) none ∙ ap (keeping d id) answered

    module _ {m : KeptMessage} (is : m ≡ kept_of id message) (buffer filled : List ℕ) (left : List KeptMessage) where
      pub new_read : (answer : ReadAnswer) → GivesNew m d.kept buffer answer left filled
          → Reads (with_message d id) id buffer answer (record d { association = a; kept = left }) filled
      new_read answer given =
          subst (λ (e : Driving). Reads e id buffer answer (record d { association = a; kept = left }) filled)
          (sym asked_then) (
            given_as_kept (kept_of id message) d.kept buffer filled left answer none
                (subst (λ (x : KeptMessage). GivesNew x d.kept buffer answer left filled) is given),
            refl,
          )
