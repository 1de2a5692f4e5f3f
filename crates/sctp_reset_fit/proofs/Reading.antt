-- A message that is read on the stream is read in its course.
use Rattle.std.proofs.Common.{◌≡◌, refl, sym, ap, ◌∙◌, subst, ℕ, ◌+◌, ◌≤◌, Bool, true, false, not, ◌&&◌, cond, List}
use Rattle.std.proofs.Common.{[], ◌∷◌, ◌++◌, filter, Option, Some, None, arith, ⊎_elim, nat_lt, nat_cmp}
use Rattle.std.proofs.Common.{if◌then◌else◌}
use Rattle.std.specs.List.{list_any}
use Rattle.std.specs.BTreeMap.{is_at}
use Rattle.std.specs.Map.{keys_of}
use Rattle.std.proofs.lemmas.Bool.{and_from, cases_Bool, cond-true, eq-eqb}
use Rattle.sctp_model.specs.Packets.{mem}
use Rattle.sctp_wire_types.specs.declared.chunk.ChunkPayloadData.{ChunkPayloadData}
use Rattle.sctp_receive_queues.specs.Messages.{ReceivedMessage}
use Rattle.sctp_receive_queues.specs.Reassembly.{Reassembly, taken}
use Rattle.sctp_streams.specs.Stream.{StreamView, is_read_half_open, read_with, stream_read}
use Rattle.sctp_streams.specs.Streams.{StreamMap, read_at, read_in, stream_at, with_stream}
use Rattle.sctp_streams.proofs.LowMarks.{at_with}
use Rattle.sctp_generations.specs.Generations.{GenerationsView}
use Rattle.sctp_reset_requests.specs.Request.{PeerRequestView}
use Rattle.sctp_courses.specs.Course.{Course, Live, held_on, offsets_told, times}
use Rattle.sctp_courses.specs.Events.{Event, are_held, read_from, without_held}
use Rattle.sctp_courses.specs.Invariants.{Invariant}
use Rattle.sctp_courses.proofs.Times.{mem_times}
use Rattle.sctp_reset_fit.specs.Laws.{LeadsTo}
use Rattle.sctp_reset_fit.specs.Stands.{IsTakenOut, LiveAs, StandsFor, TellsRead}
use Rattle.sctp_reset_fit.proofs.Leading.{leads_by}
use Rattle.sctp_reset_fit.proofs.Once.{set_once}
use Rattle.sctp_reset_fit.proofs.Parted.{times_chosen}

-- What the course leads to once a message was read in the generation of that stream.
pub record ReadsOne (initial id : ℕ) (P : ChunkPayloadData → Type 0) (IsHeld : Reassembly → List ℕ → Type 0)
    (Makes : ReceivedMessage → List ℕ → Type 0) (g : GenerationsView) (m : StreamMap)
    (in_progress : Option PeerRequestView) (generation : ℕ) (message : ReceivedMessage) (c : Course) : Type 0 where
  pub after : Course
  pub leads : LeadsTo c after
  pub stands : StandsFor initial id P IsHeld g m in_progress after
  pub offsets : List ℕ
  pub makes : Makes message offsets
  pub told : after.told ≡ c.told ++ record { generation = generation; offsets = offsets } ∷ []

none_more : (out held : List ℕ) → ((o : ℕ) → times o out ≤ times o held) → are_held out held ≡ true
none_more out held few = ap not (none out)
  where
    not_less : (a b : ℕ) → b ≤ a → nat_lt a b ≡ false
    not_less a b l = grind arith

    none : (xs : List ℕ) → list_any (λ o. nat_lt (times o held) (times o out)) xs ≡ false
    none [] = refl
    none (o ∷ xs) = rw (not_less (times o held) (times o out) (few o), none xs) refl

module _ (initial id : ℕ) (P : ChunkPayloadData → Type 0) (IsHeld : Reassembly → List ℕ → Type 0)
    (more : (q : Reassembly) (os more : List ℕ) → ((o : ℕ) → times o os ≤ times o more) → IsHeld q os → IsHeld q more)
    (Makes : ReceivedMessage → List ℕ → Type 0) (tells : TellsRead Makes IsHeld) where
  pub reads_one : (g : GenerationsView) (m : StreamMap) (in_progress : Option PeerRequestView) (c : Course)
      (t : StreamView)
      (message : ReceivedMessage) → Invariant c → StandsFor initial id P IsHeld g m in_progress c
      → stream_at m id ≡ Some t → is_read_half_open t.halves ≡ true → (read_in m id).1 ≡ Some message
      → ReadsOne initial id P IsHeld Makes g (read_in m id).0 in_progress t.stats.generation message c
  reads_one g m in_progress c t message inv h is can given =
      by c.live refl (subst (λ o. LiveAs IsHeld o c.live) is h.live)
    where
      answered : (x : Reassembly × Option ReceivedMessage) → (read_with t x).1 ≡ x.1
      answered (r, None) = refl
      answered (r, Some n) = refl

      left_of : (x : Reassembly × Option ReceivedMessage)
          → ((read_with t x).0.reassembly ≡ x.0) × ((read_with t x).0.halves ≡ t.halves)
          × ((read_with t x).0.stats.generation ≡ t.stats.generation)
      left_of (r, None) = (refl, refl, refl)
      left_of (r, Some n) = (refl, refl, refl)

      out_of : (taken t.reassembly).1 ≡ Some message
      out_of =
          sym (answered (taken t.reassembly)) ∙ (ap (λ (o : Option StreamView). (read_at o m id).1) (sym is) ∙ given)

      streams_of : (read_in m id).0 ≡ with_stream m id (stream_read t).0
      streams_of = ap (λ (o : Option StreamView). (read_at o m id).0) is

      here : stream_at (read_in m id).0 id ≡ Some (stream_read t).0
      here =
          ap (λ n. stream_at n id) streams_of ∙ at_with m id id t (stream_read t).0 is
          ∙ cond-true _ (Some (stream_read t).0) (stream_at m id) (eq-eqb id id refl)

      by : (live : Option Live) → c.live ≡ live → LiveAs IsHeld (Some t) live
          → ReadsOne initial id P IsHeld Makes g (read_in m id).0 in_progress t.stats.generation message c
      by None live a = absurd a
      by (Some l) live a = record {
        after = after;
        leads = leads_by c after (Event.Reads out.out) refl
            (ap (λ o. read_from out.out o c) live ∙ ap (λ b. cond b after c) allowed);
        stands = record {
          live = subst (λ o. LiveAs IsHeld o (Some (without_held out.out l))) (sym here) (record {
            generation = a.generation ∙ sym left.2;
            is_open = a.is_open ∙ ap is_read_half_open (sym left.1);
            held = subst (λ q. IsHeld q (without_held out.out l).held) (sym left.0)
                (more (taken t.reassembly).0 out.left (without_held out.out l).held rest out.held);
          });
          next = subst (λ n. c.next ≤ n.next_generation) (sym streams_of) h.next;
          marks = h.marks;
          kept = h.kept;
          deferred = h.deferred;
          waits = h.waits;
          once_named = h.once_named;
          once_live = once;
          once_marked = h.once_marked;
          open_where_marked = λ some k e. opens k e;
          near = h.near;
          still = h.still;
        };
        offsets = out.out;
        makes = out.makes;
        told = ap (λ n. c.told ++ record { generation = n; offsets = out.out } ∷ []) a.generation;
      }
        where
          out : IsTakenOut Makes IsHeld (taken t.reassembly).0 l.held message
          out = tells t.reassembly l.held message a.held out_of

          left : ((stream_read t).0.reassembly ≡ (taken t.reassembly).0) × ((stream_read t).0.halves ≡ t.halves)
              × ((stream_read t).0.stats.generation ≡ t.stats.generation)
          left = left_of (taken t.reassembly)

          open_now : l.is_open ≡ true
          open_now = a.is_open ∙ can

          after : Course
          after = record c {
            live = Some (without_held out.out l);
            told = c.told ++ record { generation = l.generation; offsets = out.out } ∷ [];
          }

          allowed : (l.is_open && are_held out.out l.held) ≡ true
          allowed =
              and_from l.is_open (are_held out.out l.held) open_now
              (none_more out.out l.held (λ o. (let p = out.parted o in omega arith)))

          at_most : (o : ℕ) → times o l.held ≤ 1
          at_most o =
              let e = inv.counts.once o in
              let f : times o (held_on c.live) ≡ times o l.held = ap (λ x. times o (held_on x)) live in
              few (mem o c.taken) e f
            where
              few : (b : Bool)
                  → times o c.hand + times o c.deferred + times o (held_on c.live) + times o (offsets_told c.told)
                  ≤ (if b then 1 else 0)
                  → times o (held_on c.live) ≡ times o l.held → times o l.held ≤ 1
              few true e f = omega arith
              few false e f = omega arith

          rest : (o : ℕ) → times o out.left ≤ times o (filter (λ x. not (mem x out.out)) l.held)
          rest o =
              let p = out.parted o in
              let n = at_most o in
              let e = times_chosen (λ x. not (mem x out.out)) o l.held in
              ⊎_elim
              (λ (b : mem o out.out ≡ true). let s = mem_times o out.out b in omega arith)
              (λ (b : mem o out.out ≡ false).
              let e' : times o (filter (λ x. not (mem x out.out)) l.held) ≡ times o l.held =
              e ∙ ap (λ z. if not z then times o l.held else 0) b in omega arith) (cases_Bool (mem o out.out))

          once : times id (keys_of (read_in m id).0.by_id) ≤ 1
          once =
              subst (λ (n : StreamMap). times id (keys_of n.by_id) ≤ 1) (sym streams_of)
              (set_once id (is_at (nat_cmp id)) (stream_read t).0 m.by_id h.once_live)

          opens : (k : Live) → Some (without_held out.out l) ≡ Some k → k.is_open ≡ true
          opens k e = let f : without_held out.out l ≡ k = cc in ap (λ (y : Live). y.is_open) (sym f) ∙ open_now
