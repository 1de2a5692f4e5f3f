-- A poll for packets of a present side that talks leads both courses of a stream on, and what it gives out is said
-- then.
use Rattle.std.proofs.Common.{◌≡◌, refl, sym, ◌∙◌, subst, inl, inr, ⊎_elim, ℕ, ◌+◌, ◌-◌, ◌≤◌, arith, Bool, true, false}
use Rattle.std.proofs.Common.{if◌then◌else◌, not, List, length, Option, Some, None, is_some}
use Rattle.std.proofs.lemmas.Bool.{cases_Bool, true≢false}
use Rattle.sctp_wire_types.specs.declared.chunk.Chunk.{Chunk}
use Rattle.sctp_wire_types.specs.declared.chunk.Chunk.TheVariants as chunks
use Rattle.sctp_wire_types.specs.declared.chunk.ChunkPayloadData.{ChunkPayloadData}
use Rattle.sctp_wire.specs.declared.packet.Packet.{Packet}
use Rattle.sctp_model.proofs.Lists.{all_both, all_get, all_weaker}
use Rattle.sctp_reset_requests.specs.declared.own_request.SentRequest.{SentRequest}
use Rattle.sctp_reset_requests.specs.Laws.{DataHoldsBack, NamesAreThoseListed}
use Rattle.sctp_courses.specs.Course.{Course}
use Rattle.sctp_reset_fit.specs.Keeping.{GoesOn}
use Rattle.sctp_reset_fit.proofs.Keeping.{goes_nowhere}
use Rattle.sctp_directions.specs.Acts.{Act, History}
use Rattle.sctp_assoc.specs.declared.control.Control.TheVariants as controls
use Rattle.sctp_assoc.specs.Gather.{open_polled, polled}
use Rattle.sctp_assoc.specs.Happened.{IsOfShutdown, PollsOn, acts_of_poll, forwards_of_poll}
use Rattle.sctp_assoc.specs.Leads.{Binds}
use Rattle.sctp_assoc.specs.Replies.{packet_in}
use Rattle.sctp_assoc.specs.Shown.{Shown}
use Rattle.sctp_assoc.specs.Shutdown.{completes_shutdown}
use Rattle.sctp_sides.specs.Meeting.{Greets, IsTruthful, SaysWhatIsSo, Stage, WaitsTruthfully, stage_of}
use Rattle.sctp_sides.specs.OneSide.{Call, call_refusal}
use Rattle.sctp_sides.specs.SideLaws.{IsExchanged, OfEachChunk, PollsOnward}
use Rattle.sctp_sides.proofs.Proved.{polls_keep_the_stage}
use Rattle.sctp_sides.proofs.RunsListed.{works_unrefused}
use Rattle.sctp_course_sides.specs.Follows.{ChunkComes, Follows}
use Rattle.sctp_course_sides.specs.Honest.{BringsHonest, IsHonest}
use Rattle.sctp_course_sides.specs.Meets.{SpeaksOfStage}
use Rattle.sctp_course_sides.specs.Spelled.{GivesChunk}
use Rattle.sctp_course_sides.specs.Turns.{IsPresent}
use Rattle.sctp_course_sides.proofs.BesideInPolls.{poll_stays_beside}
use Rattle.sctp_course_sides.proofs.PollComes.{poll_comes, poll_is_honest}
use Rattle.sctp_course_sides.proofs.PollSpells.{poll_spells}
use Rattle.sctp_course_sides.proofs.ReceiverCalls.{call_follows, keeps_call}
use Rattle.sctp_course_sides.proofs.SenderPolls.{PollSends, poll_sends}
use Rattle.sctp_course_sides.proofs.SentOn.{sends_nothing}
use Rattle.sctp_course_sides.proofs.SentRequests.{room_for_first}
use Rattle.sctp_course_sides.proofs.StageCalls.{call_stays_at}
use Rattle.sctp_course_sides.proofs.StageChunks.{stays_put}
use Rattle.sctp_course_sides.proofs.TruthInCalls.{call_answers, speaks_heard}
use Rattle.sctp_boundaries.specs.Between.{IsSaid, OfEachDatagram, StandsAt}
use Rattle.sctp_boundaries.specs.Laws.{more_in_flight}
use Rattle.sctp_boundaries.proofs.Leading.{SideTalks}
use Rattle.sctp_boundaries.proofs.SentNumbers.{sends_small}
use Rattle.sctp_boundaries.proofs.Staying.{answers_still, datagrams_weaker, said_still}

-- What a poll gives out says of the handshake what is so

so_it_speaks : (own : ℕ) (s : Stage) (chunk : Chunk) → SaysWhatIsSo own s chunk → SpeaksOfStage own s chunk
so_it_speaks own s (chunks.Data x) said = tt
so_it_speaks own s (chunks.SelectiveAck x) said = tt
so_it_speaks own s (chunks.ForwardTsn x) said = tt
so_it_speaks own s (chunks.IForwardTsn x) said = tt
so_it_speaks own s (chunks.Reconfig x) said = tt
so_it_speaks own s chunk said = said

exchanged_speaks : (own : ℕ) (s : Stage) (acts : List Act) (forwards : Bool) (a b : Shown) (h : History)
    (chunk : Chunk) → IsExchanged acts forwards a b h chunk → SpeaksOfStage own s chunk
exchanged_speaks own s acts forwards a b h (chunks.Data x) is = tt
exchanged_speaks own s acts forwards a b h (chunks.SelectiveAck x) is = tt
exchanged_speaks own s acts forwards a b h (chunks.ForwardTsn x) is = tt
exchanged_speaks own s acts forwards a b h chunk is = absurd is

shutdown_speaks : (own : ℕ) (s : Stage) (chunk : Chunk) → IsOfShutdown chunk → SpeaksOfStage own s chunk
shutdown_speaks own s (chunks.Shutdown x) is = tt
shutdown_speaks own s chunks.ShutdownAck is = tt
shutdown_speaks own s chunks.ShutdownComplete is = tt
shutdown_speaks own s chunk is = absurd is

given_speaks : (own now : ℕ) (a b : Shown) (h : History) → IsTruthful own a → (chunk : Chunk)
    → GivesChunk a now h b chunk → SpeaksOfStage own (stage_of a) chunk
given_speaks own now a b h truthful chunk (inl (k, c, there, same)) =
    subst (SpeaksOfStage own (stage_of a)) same
    (so_it_speaks own (stage_of a) c.chunk
    (all_get (WaitsTruthfully own (stage_of a)) a.control k (controls.Packet c) there truthful.says))
given_speaks own now a b h truthful chunk (inr (inl (exchanges, is))) =
    exchanged_speaks own (stage_of a) (acts_of_poll a now) (forwards_of_poll a now) a b h chunk is
given_speaks own now a b h truthful chunk (inr (inr (inl (request, asks, same)))) =
    subst (SpeaksOfStage own (stage_of a)) (sym same) tt
given_speaks own now a b h truthful chunk (inr (inr (inr ends))) = shutdown_speaks own (stage_of a) chunk ends

-- three facts of each chunk of a datagram
all_three : (own peer id : ℕ) (s : Stage) (out coming : Course) (packet : Option Packet)
    → OfEachChunk (ChunkComes own id out) packet → BringsHonest peer coming packet
    → OfEachChunk (SpeaksOfStage own s) packet → OfEachChunk (IsSaid own peer id s out coming) packet
all_three own peer id s out coming None comes honest speaks = tt
all_three own peer id s out coming (Some packet) comes honest speaks =
    all_weaker
    (λ (chunk : Chunk). ChunkComes own id out chunk × (IsHonest peer coming chunk × SpeaksOfStage own s chunk))
    (IsSaid own peer id s out coming) packet.chunks (λ chunk all. (all.0, all.1.0, all.1.1))
    (all_both (ChunkComes own id out) (λ (chunk : Chunk). IsHonest peer coming chunk × SpeaksOfStage own s chunk)
    packet.chunks comes
    (all_both (IsHonest peer coming) (SpeaksOfStage own s) packet.chunks honest speaks))

-- what a poll leaves of the course that comes
record Receives (P : ChunkPayloadData → Type 0) (peer id : ℕ) (b : Shown) (sent : History) (c : Course) : Type 0 where
  after : Course
  goes : GoesOn c after
  told : after.told ≡ c.told
  binds : b.lost ≡ false → Binds b sent
  follows : b.lost ≡ false → (h : History) × Follows P peer id b h after

-- What is assigned was assigned before the first piece in flight, or is in flight.
assigned_at_most : (base before after n m : ℕ) → n ≡ base + before → m ≡ base + after → m ≤ n + (after - before)
assigned_at_most base before after n m e f = omega arith

-- so it is of a poll that did not fail
where_works : (failed : Bool) → failed ≡ false → (n m k : ℕ) → m ≤ n + k → m ≤ n + (if not failed then k else 0)
where_works true e n m k l = absurd (true≢false e)
where_works false e n m k l = l

-- No poll that is carried out fails.
polled_works : (x : Shown) (now : ℕ) → x.failed ≡ false → (polled x now).0.failed ≡ false
polled_works x now working =
    let on : PollsOnward x now = polls_keep_the_stage x now in
    ⊎_elim
    (λ (ends : completes_shutdown (open_polled x now).0 ≡ true).
    (on.closes ends).failed ∙ on.front.failed ∙ working)
    (λ (goes : completes_shutdown (open_polled x now).0 ≡ false). (on.same goes).failed ∙ working)
    (cases_Bool (completes_shutdown (open_polled x now).0))

-- a request goes out for the first time where none is active
room_seen : (active : Option SentRequest) (n m : ℕ) → m ≤ n + room_for_first active
    → m ≤ n + (if not (is_some active) then 1 else 0)
room_seen None n m l = l
room_seen (Some s) n m l = l

module _ (held : DataHoldsBack) (those_listed : NamesAreThoseListed) (P : ChunkPayloadData → Type 0)
    (own peer id : ℕ) (s : Stage) (x : Shown) (out coming : Course) (present : IsPresent x)
    (st : StandsAt P own peer id s x out coming)
  where
    pub polls_talk : (now : ℕ)
        → PollsOn (acts_of_poll x now) (forwards_of_poll x now) x (polled x now).0 (polled x now).1
        → SideTalks P own peer id s x out coming true None (polled x now).0 (polled x now).1
    polls_talk now on =
        let b : Shown = (polled x now).0 in
        let accepted : call_refusal (Call.PollTransmit now) x ≡ None = works_unrefused x.failed _ present.working in
        let p : PollSends own id now x st.sent out =
        poll_sends held those_listed own id now x st.sent out st.sent_binds (sends_small own id x st.sent out st.sends)
        st.sends in
        let r : Receives P peer id b st.sent coming = receives b.lost refl in
        record {
          moves = record {
            out_after = p.after;
            coming_after = r.after;
            sends = p.on;
            seen = record {
              assigns =
                  where_works b.failed (polled_works x now present.working) out.assigned p.after.assigned
                  (more_in_flight x b)
                  (assigned_at_most st.sent.base (length x.sender.queue.in_flight) (length b.sender.queue.in_flight)
                  out.assigned p.after.assigned st.sends.assigned p.assigned);
              asks = room_seen x.resets.own.active (length out.asked) (length p.after.asked) p.asks;
            };
            goes = r.goes;
            grows = r.told;
          };
          stage = s;
          later = stays_put s;
          stands = λ few less there. (let f = r.follows there.not_lost in record {
            at = call_stays_at own s (Call.PollTransmit now) x tt accepted there.not_lost st.at;
            sent = st.sent;
            sent_binds = r.binds there.not_lost;
            sends = p.sends there.not_lost;
            came = f.0;
            follows = f.1;
            answers =
                answers_still peer b coming r.after r.goes
                (call_answers peer (Call.PollTransmit now) x coming tt st.follows.stands.numbered st.answers);
            beside = poll_stays_beside x now st.beside;
          });
          said =
              datagrams_weaker (IsSaid own peer id s p.after coming) (IsSaid own peer id s p.after r.after)
              (said_still own peer id s s p.after p.after coming r.after (stays_put s) (sends_nothing p.after) r.goes)
              (polled x now).1 (all_said p);
        }
      where
        receives : (lost : Bool) → (polled x now).0.lost ≡ lost → Receives P peer id (polled x now).0 st.sent coming
        receives true e = record {
          after = coming;
          goes = goes_nowhere coming;
          told = refl;
          binds = λ f. absurd (true≢false (sym e ∙ f));
          follows = λ f. absurd (true≢false (sym e ∙ f));
        }
        receives false e =
            let q : call_refusal (Call.PollTransmit now) x ≡ None = works_unrefused x.failed _ present.working in
            let f = call_follows P peer id (Call.PollTransmit now) x st.came coming tt q e st.follows in
            record {
              after = f.0;
              goes = f.1;
              told = f.2;
              binds = λ g. (keeps_call P peer id (Call.PollTransmit now) x tt q e).past st.sent st.sent_binds;
              follows = λ g. f.3;
            }

        speaks : OfEachDatagram (SpeaksOfStage own s) (polled x now).1
        speaks =
            subst (λ (z : Stage). OfEachDatagram (SpeaksOfStage own z) (polled x now).1) st.at.stage
            (datagrams_weaker (GivesChunk x now st.sent (polled x now).0) (SpeaksOfStage own (stage_of x))
            (given_speaks own now x (polled x now).0 st.sent st.at.truthful) (polled x now).1
            (poll_spells x (polled x now).0 now st.sent st.sent_binds st.at.truthful.plain on))

        all_said : (p : PollSends own id now x st.sent out)
            → OfEachDatagram (IsSaid own peer id s p.after coming) (polled x now).1
        all_said p =
            let packets : List (List ℕ) = (polled x now).1 in
            let Comes : List ℕ → Type 0 =
            λ (bytes : List ℕ). OfEachChunk (ChunkComes own id p.after) (packet_in bytes) in
            let Honest : List ℕ → Type 0 = λ (bytes : List ℕ). BringsHonest peer coming (packet_in bytes) in
            let Speaks : List ℕ → Type 0 = λ (bytes : List ℕ). OfEachChunk (SpeaksOfStage own s) (packet_in bytes) in
            all_weaker (λ (bytes : List ℕ). Comes bytes × (Honest bytes × Speaks bytes))
            (λ (bytes : List ℕ). OfEachChunk (IsSaid own peer id s p.after coming) (packet_in bytes)) packets
            (λ bytes all. all_three own peer id s p.after coming (packet_in bytes) all.0 all.1.0 all.1.1)
            (all_both Comes (λ (bytes : List ℕ). Honest bytes × Speaks bytes) packets
            (poll_comes own id now x st.sent out p st.sent_binds st.at.truthful.plain st.beside on)
            (all_both Honest Speaks packets
            (poll_is_honest own id peer now x st.sent out coming
            (speaks_heard peer x coming st.follows.stands.numbered st.answers) p st.sent_binds st.at.truthful.plain
            st.beside on)
            speaks))
