-- Over every list of calls of an association that begins with nothing to send, of what waits the first message alone is
-- begun, unless the association fails.
use Rattle.std.proofs.Common.{◌≡◌, refl, sym, ap, ◌∙◌, subst, ◌⊎◌, inl, inr, true, false, List, [], ◌∷◌}
use Rattle.std.proofs.Common.{Some, None}
use Rattle.std.proofs.lemmas.Bool.{false≢true}
use Rattle.sctp_outbound_queue.specs.declared.message.InFlight.{InFlight}
use Rattle.sctp_outbound_queue.specs.Waiting.{Waiting}
use Rattle.sctp_streams.specs.declared.event.Event.{Event}
use Rattle.sctp_directions.specs.Acts.{Act, History, Parts}
use Rattle.sctp_assoc.specs.Handshake.{sends_init}
use Rattle.sctp_assoc.specs.Leads.{Binds, Leads, parts}
use Rattle.sctp_assoc.specs.Shown.{Shown}
use Rattle.sctp_sides.specs.Lifetimes.{CreatedSidesHaveNothingToSend, DoInOrder, Does, HasNothingToSend}
use Rattle.sctp_sides.specs.Lifetimes.{JoinedSidesHaveNothingToSend, acts_of_call}
use Rattle.sctp_sides.specs.OneSide.{Call, FailsInside, IsCarriedOut, IsUnchanged, carried_out}
use Rattle.sctp_sides.proofs.FirstBegun.{IsFirstBegun, IsOrderly, acts_orderly}
use Rattle.sctp_sides.proofs.TimersOverRuns.{Works, accepted_works}

-- An association that failed stays so.

pub carried_out_fails : (call : Call) (told : List Event) (a b : Shown) → carried_out call a ≡ (b, told) → Works call a
    → a.failed ≡ true → b.failed ≡ true
carried_out_fails call told a b there (inl works) failed = absurd (false≢true (sym works ∙ failed))
carried_out_fails call told a b there (inr (event, still)) failed =
    ap (λ (x : Shown × List Event). x.0.failed) (sym there ∙ still) ∙ failed

stays_failed : (call : Call) (a b : Shown) (h k : History) (acts : List Act) → Does call a h acts b k
    → a.failed ≡ true → b.failed ≡ true
stays_failed call a b h k acts d failed = by_cases d.does
  where
    by_cases : (IsCarriedOut call d.told a b × (acts ≡ acts_of_call call a) × Leads acts a h b k)
        ⊎ ((IsUnchanged d.told a b ⊎ FailsInside call d.told a b) × (acts ≡ []) × (k ≡ h)) → b.failed ≡ true
    by_cases (inl (c, e, l)) = carried_out_fails call d.told a b c.there (accepted_works call a c.accepted) failed
    by_cases (inr (inl u, e, l)) = ap (λ (x : Shown). x.failed) u.same ∙ failed
    by_cases (inr (inr f, e, l)) = f.failed.marked

pub failed_for_good : (calls : List Call) (a b : Shown) (h k : History) (acts : List Act) → DoInOrder calls a h acts b k
    → a.failed ≡ true → b.failed ≡ true
failed_for_good [] a b h k acts (none, same, past) failed = ap (λ (x : Shown). x.failed) same ∙ failed
failed_for_good (call ∷ calls) a b h k acts (c, l, first, later, e, d, more) failed =
    failed_for_good calls c b l k later more (stays_failed call a c h l first d failed)

-- One that works keeps its order.

-- it stands on its history, and its queue is in order
pub record StandsOrderly (a : Shown) (h : History) : Type 0 where
  pub binds : Binds a h
  pub orderly : IsOrderly a.sender.queue

led_orderly : (a b : Shown) (h k : History) (acts : List Act) → StandsOrderly a h → Leads acts a h b k
    → StandsOrderly b k
led_orderly a b h k acts s l = record {
  binds = l.binds;
  orderly =
      subst (λ (p : Parts). IsOrderly p.queue) (sym l.there) (acts_orderly acts (parts a h) s.orderly);
}

same_orderly : (a b : Shown) (h k : History) → b ≡ a → k ≡ h → StandsOrderly a h → StandsOrderly b k
same_orderly a b h k e f s =
    subst (λ (z : History). StandsOrderly b z) (sym f) (subst (λ (z : Shown). StandsOrderly z h) (sym e) s)

call_orderly : (call : Call) (a b : Shown) (h k : History) (acts : List Act) → Does call a h acts b k
    → StandsOrderly a h → (b.failed ≡ true) ⊎ StandsOrderly b k
call_orderly call a b h k acts d s = by_cases d.does
  where
    by_cases : (IsCarriedOut call d.told a b × (acts ≡ acts_of_call call a) × Leads acts a h b k)
        ⊎ ((IsUnchanged d.told a b ⊎ FailsInside call d.told a b) × (acts ≡ []) × (k ≡ h))
        → (b.failed ≡ true) ⊎ StandsOrderly b k
    by_cases (inl (c, e, l)) = inr (led_orderly a b h k acts s l)
    by_cases (inr (inl u, e, l)) = inr (same_orderly a b h k u.same l s)
    by_cases (inr (inr f, e, l)) = inl f.failed.marked

module _ (b : Shown) (k : History) (works : b.failed ≡ false) where
  -- it goes on from a call that did not fail, since one that failed stays so
  goes_on : (calls : List Call) (c : Shown) (l : History) (later : List Act) → DoInOrder calls c l later b k
      → (StandsOrderly c l → StandsOrderly b k) → (c.failed ≡ true) ⊎ StandsOrderly c l
      → StandsOrderly b k
  goes_on calls c l later more on (inl failed) =
      absurd (false≢true (sym works ∙ failed_for_good calls c b l k later more failed))
  goes_on calls c l later more on (inr s) = on s

  run_orderly : (calls : List Call) (a : Shown) (h : History) (acts : List Act) → DoInOrder calls a h acts b k
      → StandsOrderly a h → StandsOrderly b k
  run_orderly [] a h acts (none, same, past) s = same_orderly a b h k same past s
  run_orderly (call ∷ calls) a h acts (c, l, first, later, e, d, more) s =
      goes_on calls c l later more (run_orderly calls c l later more)
      (call_orderly call a c h l first d s)

-- where there is nothing to send, nothing is out of order
begins_orderly : (a : Shown) → HasNothingToSend a → IsOrderly a.sender.queue
begins_orderly a (waits, flies) =
    empty_orderly a.sender.queue.pending a.sender.queue.in_flight waits flies
  where
    empty_orderly : (ms : List Waiting) (pieces : List InFlight) → ms ≡ [] → pieces ≡ []
        → IsFirstBegun ms pieces a.sender.queue.next_message_id
    empty_orderly ms pieces e f = rw (e, f) (tt, tt)

module _ (calls : List Call) (a b : Shown) (h k : History) (acts : List Act) (nothing : HasNothingToSend a)
    (binds : Binds a h)
  where
    pub calls_keep_the_order : DoInOrder calls a h acts b k → b.failed ≡ false → StandsOrderly b k
    calls_keep_the_order run works =
        run_orderly b k works calls a h acts run (record { binds = binds; orderly = begins_orderly a nothing })

-- Beginning

pub created_sides_have_nothing_to_send : CreatedSidesHaveNothingToSend
unfolding sends_init
created_sides_have_nothing_to_send None config size tag initial_tsn cookie remote_addr local_ip now = (refl, refl)
created_sides_have_nothing_to_send (Some of_server) config size tag initial_tsn cookie remote_addr local_ip now =
    (refl, refl)

pub joined_sides_have_nothing_to_send : JoinedSidesHaveNothingToSend
joined_sides_have_nothing_to_send config size remote_addr local_ip own peer = (refl, refl)
