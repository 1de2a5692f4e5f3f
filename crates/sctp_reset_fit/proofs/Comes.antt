-- What is given to the streams is given to the stream in its course.
use Rattle.std.proofs.Common.{◌≡◌, refl, sym, ap, ◌∙◌, subst, ℕ, ◌≤◌, true, false, List, []}
use Rattle.std.proofs.Common.{fold, Option, Some, None, arith}
use Rattle.std.specs.List.{AllByRecursion}
use Rattle.sctp_wire_types.specs.declared.chunk.ChunkPayloadData.{ChunkPayloadData}
use Rattle.sctp_wire_types.specs.declared.ids.PayloadProtocolIdentifier.TheVariants as kinds
use Rattle.sctp_receive_queues.specs.Reassembly.{Reassembly}
use Rattle.sctp_streams.specs.Stream.{StreamView, fresh_stream, is_read_half_open}
use Rattle.sctp_streams.specs.Streams.{stream_at}
use Rattle.sctp_resets.specs.Channels.{Channels, delivered}
use Rattle.std.proofs.lemmas.Bool.{false≢true}
use Rattle.sctp_courses.specs.Course.{Course, Live, is_readable, times}
use Rattle.sctp_courses.specs.Events.{opened}
use Rattle.sctp_reset_fit.specs.Laws.{LeadsTo}
use Rattle.sctp_reset_fit.specs.Stands.{IsLiveAs, LiveAs, TellsHeld, offsets_of}
use Rattle.sctp_reset_fit.proofs.Delivered.{Comes, IsGrown, IsMade, StaysAway, all_made, all_next, all_there}
use Rattle.sctp_reset_fit.proofs.Leading.{holds_them, leads_nowhere, leads_on, leads_to_given, leads_to_open}
use Rattle.sctp_reset_fit.proofs.Leading.{none_holds_them, with_all_held}

-- Of two states of a course all is the same but what is live, what is being given, and which generations there were.
pub record IsElseAs (c d : Course) : Type 0 where
  pub asked : d.asked ≡ c.asked
  pub assigned : d.assigned ≡ c.assigned
  pub performed : d.performed ≡ c.performed
  pub waits : d.waits ≡ c.waits
  pub point : d.point ≡ c.point
  pub marks : d.marks ≡ c.marks
  pub deferred : d.deferred ≡ c.deferred
  pub retires : d.retires ≡ c.retires
  pub releases : d.releases ≡ c.releases
  pub told : d.told ≡ c.told

-- What was given led the course on.
pub record AreGiven (IsHeld : Reassembly → List ℕ → Type 0) (c : Course) (live : Option StreamView) (next : ℕ)
    : Type 0 where
  pub after : Course
  pub leads : LeadsTo c after
  pub else_as : IsElseAs c after
  pub given : after.hand ≡ []
  pub live_as : LiveAs IsHeld live after.live
  pub next_is : after.next ≤ next
  pub reads : is_readable c.live ≡ true → is_readable after.live ≡ true
  -- a stream that was not live can be read where it is
  pub opens : c.live ≡ None → (l : Live) → after.live ≡ Some l → l.is_open ≡ true

module _ (initial id : ℕ) (P : ChunkPayloadData → Type 0) (IsHeld : Reassembly → List ℕ → Type 0)
    (tells : TellsHeld initial id P IsHeld) where
  -- a stream that holds no more than what is given and what it held is that of the course
  given_as : (t : StreamView) (l : Live) (os hand : List ℕ) (live : Option Live) (o : Option StreamView)
      → live ≡ Some l → IsLiveAs IsHeld t l → ((n : ℕ) → times n os ≤ times n hand)
      → IsGrown initial id P IsHeld tells t os o
      → LiveAs IsHeld o (with_all_held live hand)
  given_as t l os hand live o is was few g =
      let all = holds_them live hand l is in
      let more = g.held l.held was.held in
      subst (λ x. LiveAs IsHeld x (with_all_held live hand)) (sym g.is)
      (subst (λ (x : Option Live). LiveAs IsHeld (Some g.after) x) (sym all.is) (record {
        generation = all.generation ∙ was.generation ∙ ap (λ s. s.generation) (sym g.stats);
        is_open = all.is_open ∙ was.is_open ∙ ap is_read_half_open (sym g.halves);
        held = tells.more g.after.reassembly more.0 all.more.held
            (λ n. (let a = more.1 n in let b = few n in let c = all.held n in omega arith)) more.2;
      }))

  pub all_come : (first limit : ℕ) (ds : List ChunkPayloadData) (x : Channels) (c : Course) → c.retires ≡ false
      → LiveAs IsHeld (stream_at x.streams id) c.live → c.next ≤ x.streams.next_generation → AllByRecursion P ds
      → ((n : ℕ) → times n (offsets_of initial id ds) ≤ times n c.hand)
      → AreGiven IsHeld c (stream_at (fold (delivered first limit) x ds).streams id)
      (fold (delivered first limit) x ds).streams.next_generation
  all_come first limit ds x c still was next so few = by (stream_at x.streams id) refl c.live refl was
    where
      here : Option StreamView
      here = stream_at (fold (delivered first limit) x ds).streams id

      last : ℕ
      last = (fold (delivered first limit) x ds).streams.next_generation

      grows : x.streams.next_generation ≤ last
      grows = all_next initial id P IsHeld tells first limit ds x

      -- all that is being given is given to what is live
      given : (d : Course) → LeadsTo c d → IsElseAs c d → d.hand ≡ c.hand → d.next ≤ last
          → LiveAs IsHeld here (with_all_held d.live c.hand)
          → (is_readable c.live ≡ true → is_readable (with_all_held d.live c.hand) ≡ true)
          → (c.live ≡ None → (l : Live) → with_all_held d.live c.hand ≡ Some l → l.is_open ≡ true)
          → AreGiven IsHeld c here last
      given d leads same hand bound live reads opens = record {
        after = record d { live = with_all_held d.live c.hand; hand = [] };
        leads = leads_on c d (record d { live = with_all_held d.live c.hand; hand = [] }) leads
            (leads_to_given c.hand d hand);
        else_as = record {
          asked = same.asked;
          assigned = same.assigned;
          performed = same.performed;
          waits = same.waits;
          point = same.point;
          marks = same.marks;
          deferred = same.deferred;
          retires = same.retires;
          releases = same.releases;
          told = same.told;
        };
        given = refl;
        live_as = live;
        next_is = bound;
        reads = reads;
        opens = opens;
      }

      itself : IsElseAs c c
      itself = record {
        asked = refl;
        assigned = refl;
        performed = refl;
        waits = refl;
        point = refl;
        marks = refl;
        deferred = refl;
        retires = refl;
        releases = refl;
        told = refl;
      }

      stays : LeadsTo c c
      stays = leads_nowhere c

      fresh_opens : (generation : ℕ) (l : Live)
          → with_all_held (Some (record { generation = generation; is_open = true; held = [] })) c.hand ≡ Some l
          → l.is_open ≡ true
      fresh_opens generation l e =
          let all = holds_them (Some (record { generation = generation; is_open = true; held = [] })) c.hand
          (record { generation = generation; is_open = true; held = [] }) refl in
          let same : all.more ≡ l = (let f = all.is in cc) in
          ap (λ (y : Live). y.is_open) (sym same) ∙ all.is_open

      made : c.live ≡ None
          → IsMade initial id P IsHeld tells first x.streams.next_generation last (offsets_of initial id ds) here
          → AreGiven IsHeld c here last
      made none (StaysAway e) =
          given c stays itself refl (let l = grows in omega arith)
          (subst (λ o. LiveAs IsHeld o (with_all_held c.live c.hand)) (sym e)
          (subst (LiveAs IsHeld None) (sym (none_holds_them c.live c.hand none)) tt))
          (λ e. absurd (false≢true (sym (ap is_readable none) ∙ e)))
          (λ gone l e. absurd (let f = none_holds_them c.live c.hand gone in cc))
      made none (Comes generation from below g) =
          given (opened c generation) (leads_to_open c generation still none (omega arith)) (record {
            asked = refl;
            assigned = refl;
            performed = refl;
            waits = refl;
            point = refl;
            marks = refl;
            deferred = refl;
            retires = refl;
            releases = refl;
            told = refl;
          }) refl (omega arith)
          (given_as (fresh_stream id generation first kinds.Unknown)
          (record { generation = generation; is_open = true; held = [] }) (offsets_of initial id ds) c.hand
          (opened c generation).live here refl
          (record { generation = refl; is_open = refl; held = tells.empty }) few g)
          (λ e. absurd (false≢true (sym (ap is_readable none) ∙ e))) (λ gone l e. fresh_opens generation l e)

      by : (o : Option StreamView) → stream_at x.streams id ≡ o → (live : Option Live) → c.live ≡ live
          → LiveAs IsHeld o live → AreGiven IsHeld c here last
      by None is None none h = made none (all_made initial id P IsHeld tells first limit ds x so is)
      by None is (Some l) live h = absurd h
      by (Some t) is None live h = absurd h
      by (Some t) is (Some l) live h =
          given c stays itself refl (let l = grows in omega arith)
          (given_as t l (offsets_of initial id ds) c.hand c.live here live h few
          (all_there initial id P IsHeld tells first limit ds x t so is)) (λ e.
          (let all = holds_them c.live c.hand l live in
          ap is_readable all.is ∙ all.is_open ∙ ap is_readable (sym live) ∙ e))
          (λ gone k e. absurd (let f = live in cc))
