-- DATA that goes to its streams comes to the stream as the course has it.
use Rattle.std.proofs.Common.{◌≡◌, refl, sym, ap, ◌∙◌, subst, ℕ, ◌+◌, ◌≤◌, ◌<◌, Bool, true, false, not, ◌&&◌}
use Rattle.std.proofs.Common.{List, [], ◌∷◌, ◌++◌, fold, Option, Some, None, is_some, arith, cond}
use Rattle.std.proofs.Common.{nat_cmp}
use Rattle.std.specs.List.{AllByRecursion}
use Rattle.std.proofs.lemmas.Bool.{cond-true, eq-eqb, eqb-true}
use Rattle.sctp_wire_types.specs.declared.chunk.ChunkPayloadData.{ChunkPayloadData}
use Rattle.sctp_wire_types.specs.declared.error.Error.{Error}
use Rattle.sctp_wire_types.specs.declared.ids.PayloadProtocolIdentifier.TheVariants as kinds
use Rattle.sctp_receive_queues.specs.Reassembly.{Reassembly, refusal}
use Rattle.sctp_streams.specs.Stream.{StreamView, fresh_stream, stream_pushed}
use Rattle.sctp_streams.specs.Streams.{StreamMap, generation_left, is_readable_in, pushed_in, refusal_at, refusal_in}
use Rattle.sctp_streams.specs.Streams.{pushed_at, stream_at, with_stream}
use Rattle.sctp_streams.proofs.LowMarks.{at_with, found_as}
use Rattle.sctp_fit.proofs.StreamsThere.{at_made}
use Rattle.sctp_resets.specs.Channels.{Channels, delivered, given_unless, given_where, opened, told, with_new_stream}
use Rattle.sctp_resets.specs.Channels.{with_piece}
use Rattle.sctp_resets.proofs.StreamsBeside.{all_delivered_apart}
use Rattle.sctp_generations.specs.Deferred.{is_of}
use Rattle.std.specs.BTreeMap.{is_at}
use Rattle.sctp_reset_fit.specs.Stands.{IsOnce}
use Rattle.sctp_reset_fit.proofs.Once.{apart_too, inserted_once, set_once}
use Rattle.sctp_courses.specs.Course.{times}
use Rattle.sctp_courses.proofs.Times.{times-join}
use Rattle.sctp_reset_fit.specs.Stands.{TellsHeld, offset_of, offsets_of}

-- of two that have the same streams either has them
same_streams : (b : Bool) (x y : Channels) (m : StreamMap) → x.streams ≡ m → y.streams ≡ m → (cond b x y).streams ≡ m
same_streams true x y m e f = e
same_streams false x y m e f = f

told_streams : (c : Channels) (id : ℕ) (kept : Bool) → (told c id kept).streams ≡ c.streams
told_streams c id kept = same_streams (kept && is_readable_in c.streams id) _ _ c.streams refl refl

-- What a live stream is once a piece was given to it.
pub record IsGiven (IsHeld : Reassembly → List ℕ → Type 0) (o : ℕ) (t : StreamView) (m n : StreamMap) (id : ℕ)
    : Type 0 where
  pub after : StreamView
  pub is : stream_at n id ≡ Some after
  pub next : n.next_generation ≡ m.next_generation
  pub generation : after.stats ≡ t.stats
  pub halves : after.halves ≡ t.halves
  pub held : (os : List ℕ) → IsHeld t.reassembly os → IsHeld after.reassembly (o ∷ os)

module _ (initial : ℕ) (P : ChunkPayloadData → Type 0) (IsHeld : Reassembly → List ℕ → Type 0) (d : ChunkPayloadData)
    (tells : TellsHeld initial d.stream_identifier P IsHeld) (so : P d) where
  -- the piece goes to its live stream, or is refused
  given_there : (limit : ℕ) (c : Channels) (t : StreamView) → stream_at c.streams d.stream_identifier ≡ Some t
      → IsGiven IsHeld (offset_of initial d.tsn) t c.streams (given_where limit (c, true) d).streams
      d.stream_identifier
  given_there limit c t is =
      by (refusal_in c.streams d.stream_identifier d limit) refl
    where
      id : ℕ
      id = d.stream_identifier

      o : ℕ
      o = offset_of initial d.tsn

      fits : refusal_in c.streams id d limit ≡ None → refusal t.reassembly d limit ≡ None
      fits e = ap (λ (x : Option StreamView). refusal_at x d limit) (sym is) ∙ e

      put : pushed_in c.streams id d ≡ (with_stream c.streams id (stream_pushed t d).0, (stream_pushed t d).1)
      put = ap (λ (x : Option StreamView). pushed_at x c.streams id d) is

      streams_of : (with_piece c id (pushed_in c.streams id d)).streams
          ≡ with_stream c.streams id (stream_pushed t d).0
      streams_of =
          ap (λ (x : StreamMap × Bool). (with_piece c id x).streams) put
          ∙ told_streams (record c { streams = with_stream c.streams id (stream_pushed t d).0 }) id
          (stream_pushed t d).1

      by : (x : Option Error) → refusal_in c.streams id d limit ≡ x
          → IsGiven IsHeld o t c.streams (given_unless x c d).streams id
      by (Some fault) e = record {
        after = t;
        is = is;
        next = refl;
        generation = refl;
        halves = refl;
        held = λ os h. tells.more t.reassembly os (o ∷ os) (λ n. omega arith) h;
      }
      by None e = record {
        after = (stream_pushed t d).0;
        is = ap (λ (m : StreamMap). stream_at m id) streams_of
            ∙ at_with c.streams id id t (stream_pushed t d).0 is
            ∙ cond-true _ (Some (stream_pushed t d).0) (stream_at c.streams id) (eq-eqb id id refl);
        next = ap (λ (m : StreamMap). m.next_generation) streams_of;
        generation = refl;
        halves = refl;
        held = λ os h. tells.pushes t.reassembly os d limit so refl (fits e) h;
      }

-- Generations are given out one after the other.

opened_next : (first : ℕ) (c : Channels) (id : ℕ)
    → c.streams.next_generation ≤ (opened first c id).0.streams.next_generation
unfolding opened
opened_next first c id = by (is_some (stream_at c.streams id)) (generation_left c.streams)
  where
    by : (live left : Bool)
        → c.streams.next_generation
        ≤ (cond {A = Channels × Bool} live (c, true)
        (cond {A = Channels × Bool} (not left) (c, false) (with_new_stream first c id, true))).0.streams.next_generation
    by true left = omega arith
    by false false = omega arith
    by false true = omega arith

pushed_next : (o : Option StreamView) (m : StreamMap) (id : ℕ) (d : ChunkPayloadData)
    → (pushed_at o m id d).0.next_generation ≡ m.next_generation
pushed_next None m id d = refl
pushed_next (Some s) m id d = refl

given_next : (limit : ℕ) (c : Channels) (there : Bool) (d : ChunkPayloadData)
    → (given_where limit (c, there) d).streams.next_generation ≡ c.streams.next_generation
given_next limit c false d = refl
given_next limit c true d = by (refusal_in c.streams d.stream_identifier d limit)
  where
    by : (x : Option Error) → (given_unless x c d).streams.next_generation ≡ c.streams.next_generation
    by (Some fault) = refl
    by None =
        ap (λ (m : StreamMap). m.next_generation)
        (told_streams (record c { streams = (pushed_in c.streams d.stream_identifier d).0 }) d.stream_identifier
        (pushed_in c.streams d.stream_identifier d).1)
        ∙ pushed_next (stream_at c.streams d.stream_identifier) c.streams d.stream_identifier d

delivered_next : (first limit : ℕ) (c : Channels) (d : ChunkPayloadData)
    → c.streams.next_generation ≤ (delivered first limit c d).streams.next_generation
unfolding delivered
delivered_next first limit c d =
    let a = opened_next first c d.stream_identifier in
    let e = given_next limit (opened first c d.stream_identifier).0 (opened first c d.stream_identifier).1 d in
    omega arith

-- Each identifier has at most one stream.
module _ (id : ℕ) where
  opened_once : (first : ℕ) (c : Channels) (k : ℕ) → IsOnce id c.streams.by_id
      → IsOnce id (opened first c k).0.streams.by_id
  unfolding opened
  opened_once first c k once = by (stream_at c.streams k) refl (generation_left c.streams)
    where
      by : (o : Option StreamView) → stream_at c.streams k ≡ o → (left : Bool)
          → IsOnce id
          (cond {A = Channels × Bool} (is_some (stream_at c.streams k)) (c, true)
          (cond {A = Channels × Bool} (not left) (c, false) (with_new_stream first c k, true))).0.streams.by_id
      by (Some t) is left = rw is once
      by None is false = rw is once
      by None is true =
          rw is (inserted_once id k (fresh_stream k c.streams.next_generation first kinds.Unknown) c.streams.by_id once
          (λ same. subst (λ i. stream_at c.streams i ≡ None) (sym same) is))

  pushed_once : (o : Option StreamView) (m : StreamMap) (k : ℕ) (d : ChunkPayloadData) → IsOnce id m.by_id
      → IsOnce id (pushed_at o m k d).0.by_id
  pushed_once None m k d once = once
  pushed_once (Some s) m k d once = set_once id (is_at (nat_cmp k)) _ m.by_id once

  given_once : (limit : ℕ) (c : Channels) (there : Bool) (d : ChunkPayloadData) → IsOnce id c.streams.by_id
      → IsOnce id (given_where limit (c, there) d).streams.by_id
  given_once limit c false d once = once
  given_once limit c true d once = by (refusal_in c.streams d.stream_identifier d limit)
    where
      by : (x : Option Error) → IsOnce id (given_unless x c d).streams.by_id
      by (Some fault) = once
      by None =
          subst (λ (m : StreamMap). IsOnce id m.by_id)
          (sym (told_streams (record c { streams = (pushed_in c.streams d.stream_identifier d).0 })
          d.stream_identifier (pushed_in c.streams d.stream_identifier d).1))
          (pushed_once (stream_at c.streams d.stream_identifier) c.streams d.stream_identifier d once)

  delivered_once : (first limit : ℕ) (c : Channels) (d : ChunkPayloadData) → IsOnce id c.streams.by_id
      → IsOnce id (delivered first limit c d).streams.by_id
  unfolding delivered
  delivered_once first limit c d once =
      given_once limit (opened first c d.stream_identifier).0 (opened first c d.stream_identifier).1 d
      (opened_once first c d.stream_identifier once)

  pub all_once : (first limit : ℕ) (ds : List ChunkPayloadData) (c : Channels) → IsOnce id c.streams.by_id
      → IsOnce id (fold (delivered first limit) c ds).streams.by_id
  all_once first limit [] c once = once
  all_once first limit (d ∷ ds) c once =
      all_once first limit ds (delivered first limit c d) (delivered_once first limit c d once)

-- What comes to a stream that is live.
module _ (initial id : ℕ) (P : ChunkPayloadData → Type 0) (IsHeld : Reassembly → List ℕ → Type 0)
    (tells : TellsHeld initial id P IsHeld) where
  -- the stream was given no more than these offsets
  pub record IsGrown (t : StreamView) (os : List ℕ) (o : Option StreamView) : Type 0 where
    pub after : StreamView
    pub is : o ≡ Some after
    pub stats : after.stats ≡ t.stats
    pub halves : after.halves ≡ t.halves
    pub held : (held : List ℕ) → IsHeld t.reassembly held
        → (more : List ℕ) × ((n : ℕ) → times n more ≤ times n os + times n held) × IsHeld after.reassembly more

  one_there : (first limit : ℕ) (c : Channels) (t : StreamView) (d : ChunkPayloadData) → d.stream_identifier ≡ id
      → P d → stream_at c.streams id ≡ Some t
      → IsGrown t (offset_of initial d.tsn ∷ []) (stream_at (delivered first limit c d).streams id)
  unfolding delivered opened
  one_there first limit c t d same so is =
      let told : TellsHeld initial d.stream_identifier P IsHeld =
      subst (λ i. TellsHeld initial i P IsHeld) (sym same) tells
      in
      let there : stream_at c.streams d.stream_identifier ≡ Some t =
      subst (λ i. stream_at c.streams i ≡ Some t) (sym same) is
      in
      let g = given_there initial P IsHeld d told so limit c t there in
      record {
        after = g.after;
        is = ap (λ i. stream_at (delivered first limit c d).streams i) (sym same)
            ∙ (rw there g.is);
        stats = g.generation;
        halves = g.halves;
        held = λ os h. (offset_of initial d.tsn ∷ os, λ n. omega arith, g.held os h);
      }

  other_apart : (first limit : ℕ) (c : Channels) (d : ChunkPayloadData) → is_of id d ≡ false
      → stream_at (delivered first limit c d).streams id ≡ stream_at c.streams id
  other_apart first limit c d apart =
      all_delivered_apart id first limit (d ∷ []) c (rw (found_as id d.stream_identifier, apart_too _ _ apart) refl)

  pub all_there : (first limit : ℕ) (ds : List ChunkPayloadData) (c : Channels) (t : StreamView)
      → AllByRecursion P ds → stream_at c.streams id ≡ Some t
      → IsGrown t (offsets_of initial id ds) (stream_at (fold (delivered first limit) c ds).streams id)
  all_there first limit [] c t so is = record {
    after = t;
    is = is;
    stats = refl;
    halves = refl;
    held = λ held h. (held, λ n. omega arith, h);
  }
  all_there first limit (d ∷ ds) c t so is =
      by (is_of id d) refl (λ x u e. all_there first limit ds x u so.1 e)
    where
      by : (mine : Bool) → is_of id d ≡ mine
          → ((x : Channels) (u : StreamView) → stream_at x.streams id ≡ Some u
          → IsGrown u (offsets_of initial id ds) (stream_at (fold (delivered first limit) x ds).streams id))
          → IsGrown t (offsets_of initial id (d ∷ ds))
          (stream_at (fold (delivered first limit) (delivered first limit c d) ds).streams id)
      by true e rest =
          let one = one_there first limit c t d (eqb-true d.stream_identifier id e) so.0 is in
          let all = rest (delivered first limit c d) one.after one.is in
          rw e (record {
            after = all.after;
            is = all.is;
            stats = all.stats ∙ one.stats;
            halves = all.halves ∙ one.halves;
            held = λ held h.
                let first = one.held held h in
                let later = all.held first.0 first.2 in
                (later.0, λ n. (let a = first.1 n in let b = later.1 n in omega arith), later.2);
          })
      by false e rest =
          rw e (rest (delivered first limit c d) t (other_apart first limit c d e ∙ is))

  -- A stream that is not live is made by the first piece that comes to it, or none comes to it.
  pub data IsMade (first next last : ℕ) (os : List ℕ) (o : Option StreamView) : Type 0 where
    StaysAway : o ≡ None → IsMade first next last os o
    Comes : (generation : ℕ) → next ≤ generation → generation < last
        → IsGrown (fresh_stream id generation first kinds.Unknown) os o → IsMade first next last os o

  -- a generation is left, and the piece makes the stream, or none is, and it is lost
  one_made : (first limit : ℕ) (c : Channels) (d : ChunkPayloadData) → d.stream_identifier ≡ id → P d
      → stream_at c.streams id ≡ None
      → IsMade first c.streams.next_generation (delivered first limit c d).streams.next_generation
      (offset_of initial d.tsn ∷ []) (stream_at (delivered first limit c d).streams id)
  unfolding delivered opened
  one_made first limit c d same so none = by (generation_left c.streams) refl
    where
      here : stream_at c.streams d.stream_identifier ≡ None
      here = subst (λ i. stream_at c.streams i ≡ None) (sym same) none

      told : TellsHeld initial d.stream_identifier P IsHeld
      told = subst (λ i. TellsHeld initial i P IsHeld) (sym same) tells

      new : Channels
      new = with_new_stream first c d.stream_identifier

      fresh : stream_at new.streams d.stream_identifier
          ≡ Some (fresh_stream d.stream_identifier c.streams.next_generation first kinds.Unknown)
      fresh =
          at_made c.streams d.stream_identifier first d.stream_identifier kinds.Unknown here
          ∙ cond-true _ _ (stream_at c.streams d.stream_identifier)
          (eq-eqb d.stream_identifier d.stream_identifier refl)

      by : (left : Bool) → generation_left c.streams ≡ left
          → IsMade first c.streams.next_generation (delivered first limit c d).streams.next_generation
          (offset_of initial d.tsn ∷ []) (stream_at (delivered first limit c d).streams id)
      by false e = StaysAway (rw (here, e) none)
      by true e =
          let g = given_there initial P IsHeld d told so limit new
          (fresh_stream d.stream_identifier c.streams.next_generation first kinds.Unknown) fresh in
          Comes c.streams.next_generation (omega arith) (rw (here, e) (let n = g.next in omega arith))
          (rw (here, e) (record {
            after = g.after;
            is = ap (λ i. stream_at (given_where limit (new, true) d).streams i) (sym same) ∙ g.is;
            stats = g.generation
                ∙ ap (λ i. (fresh_stream i c.streams.next_generation first kinds.Unknown).stats) same;
            halves = g.halves;
            held = λ os h. (offset_of initial d.tsn ∷ os, λ n. omega arith, g.held os h);
          }))

  grown_after : (first : ℕ) (t u : StreamView) (os more : List ℕ) (o : Option StreamView) → u.stats ≡ t.stats
      → u.halves ≡ t.halves
      → ((held : List ℕ) → IsHeld t.reassembly held
      → (out : List ℕ) × ((n : ℕ) → times n out ≤ times n os + times n held) × IsHeld u.reassembly out)
      → IsGrown u more o → IsGrown t (os ++ more) o
  grown_after first t u os more o stats halves one all = record {
    after = all.after;
    is = all.is;
    stats = all.stats ∙ stats;
    halves = all.halves ∙ halves;
    held = λ held h.
        let a = one held h in
        let b = all.held a.0 a.2 in
        (b.0, λ n. (let x = a.1 n in let y = b.1 n in let z = times-join n os more in omega arith), b.2);
  }

  pub all_next : (first limit : ℕ) (ds : List ChunkPayloadData) (c : Channels)
      → c.streams.next_generation ≤ (fold (delivered first limit) c ds).streams.next_generation
  all_next first limit [] c = omega arith
  all_next first limit (d ∷ ds) c =
      let a = delivered_next first limit c d in
      let b = all_next first limit ds (delivered first limit c d) in omega arith

  pub all_made : (first limit : ℕ) (ds : List ChunkPayloadData) (c : Channels) → AllByRecursion P ds
      → stream_at c.streams id ≡ None
      → IsMade first c.streams.next_generation (fold (delivered first limit) c ds).streams.next_generation
      (offsets_of initial id ds) (stream_at (fold (delivered first limit) c ds).streams id)
  all_made first limit [] c so none = StaysAway none
  all_made first limit (d ∷ ds) c so none =
      by (is_of id d) refl (λ x e. all_made first limit ds x so.1 e)
    where
      last : ℕ
      last = (fold (delivered first limit) (delivered first limit c d) ds).streams.next_generation

      later : (os : List ℕ) (n m : ℕ) (o : Option StreamView) → n ≤ m → IsMade first m last os o
          → IsMade first n last os o
      later os n m o l (StaysAway e) = StaysAway e
      later os n m o l (Comes generation k b g) = Comes generation (omega arith) b g

      after : (o : Option StreamView) → stream_at (delivered first limit c d).streams id ≡ o
          → IsMade first c.streams.next_generation (delivered first limit c d).streams.next_generation
          (offset_of initial d.tsn ∷ []) o
          → ((x : Channels) → stream_at x.streams id ≡ None
          → IsMade first x.streams.next_generation (fold (delivered first limit) x ds).streams.next_generation
          (offsets_of initial id ds) (stream_at (fold (delivered first limit) x ds).streams id))
          → IsMade first c.streams.next_generation last (offset_of initial d.tsn ∷ offsets_of initial id ds)
          (stream_at (fold (delivered first limit) (delivered first limit c d) ds).streams id)
      after o is (StaysAway none) rest =
          more (rest (delivered first limit c d) (is ∙ none))
        where
          more : IsMade first (delivered first limit c d).streams.next_generation last (offsets_of initial id ds)
              (stream_at (fold (delivered first limit) (delivered first limit c d) ds).streams id)
              → IsMade first c.streams.next_generation last (offset_of initial d.tsn ∷ offsets_of initial id ds)
              (stream_at (fold (delivered first limit) (delivered first limit c d) ds).streams id)
          more (StaysAway e) = StaysAway e
          more (Comes generation k b g) =
              Comes generation (let l = delivered_next first limit c d in omega arith) b
              (grown_after first (fresh_stream id generation first kinds.Unknown)
              (fresh_stream id generation first kinds.Unknown) (offset_of initial d.tsn ∷ [])
              (offsets_of initial id ds) _ refl refl (λ held h. (held, λ n. omega arith, h)) g)
      after o is (Comes generation k b g) rest =
          Comes generation k (let l = all_next first limit ds (delivered first limit c d) in omega arith)
          (grown_after first (fresh_stream id generation first kinds.Unknown) g.after (offset_of initial d.tsn ∷ [])
          (offsets_of initial id ds) _ g.stats g.halves g.held
          (all_there first limit ds (delivered first limit c d) g.after so.1 (is ∙ g.is)))

      by : (mine : Bool) → is_of id d ≡ mine
          → ((x : Channels) → stream_at x.streams id ≡ None
          → IsMade first x.streams.next_generation (fold (delivered first limit) x ds).streams.next_generation
          (offsets_of initial id ds) (stream_at (fold (delivered first limit) x ds).streams id))
          → IsMade first c.streams.next_generation last (offsets_of initial id (d ∷ ds))
          (stream_at (fold (delivered first limit) (delivered first limit c d) ds).streams id)
      by true e rest =
          rw e (after (stream_at (delivered first limit c d).streams id) refl
          (one_made first limit c d (eqb-true d.stream_identifier id e) so.0 none) rest)
      by false e rest =
          rw e (later (offsets_of initial id ds) c.streams.next_generation
          (delivered first limit c d).streams.next_generation _ (delivered_next first limit c d)
          (rest (delivered first limit c d) (other_apart first limit c d e ∙ none)))
