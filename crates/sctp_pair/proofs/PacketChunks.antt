-- What the chunks of a packet do to one association between its directions.
use Rattle.std.proofs.Common.{◌≡◌, refl, sym, ap, ◌∙◌, subst, ◌⊎◌, ⊎_elim, inl, inr, ℕ, ◌+◌, ◌<◌, ◌≤◌, arith}
use Rattle.std.proofs.Common.{Bool, true, false, List, [], ◌∷◌, ◌++◌, length, Option, Some}
use Rattle.std.specs.Prelude.{⊤, slice_get}
use Rattle.std.specs.List.{AllByRecursion}
use Rattle.std.proofs.lemmas.Bool.{cases_Bool}
use Rattle.std.proofs.lemmas.List.{append_assoc}
use Rattle.sctp_wire_types.specs.declared.chunk.Chunk.{Chunk}
use Rattle.sctp_wire_types.specs.declared.chunk.Chunk.TheVariants as chunks
use Rattle.sctp_wire_types.specs.declared.chunk.ChunkForwardTsn.{ChunkForwardTsn}
use Rattle.sctp_wire_types.specs.declared.chunk.ChunkPayloadData.{ChunkPayloadData}
use Rattle.sctp_wire_types.specs.declared.chunk.ChunkReconfig.{ChunkReconfig}
use Rattle.sctp_wire_types.specs.declared.chunk.ChunkSelectiveAck.{ChunkSelectiveAck}
use Rattle.sctp_wire_types.specs.declared.packet.CommonHeader.{CommonHeader}
use Rattle.sctp_wire.specs.declared.packet.Packet.{Packet}
use Rattle.sctp_model.specs.Invariants.{IsForward, IsPiece}
use Rattle.sctp_model.specs.Messages.{Place}
use Rattle.sctp_model.specs.Packets.{Data, Forward}
use Rattle.sctp_serial.specs.Serial.{tsn}
use Rattle.sctp_model.specs.Machine.{Sender}
use Rattle.sctp_model.specs.Safe.{IsWithin}
use Rattle.sctp_model.proofs.Lists.{all_get, all_join, all_weaker}
use Rattle.sctp_fit.specs.Incoming.{IsSaid, tsn_before}
use Rattle.sctp_fit.specs.Sendings.{IsGiven}
use Rattle.sctp_directions.specs.Acts.{Act, CanAll, History, IsNotPeerKnown, Parts, done, done_all}
use Rattle.sctp_directions.specs.Reports.{SaysWhatWasTaken}
use Rattle.sctp_directions.specs.Said.{IsForwardMade, IsMade}
use Rattle.sctp_directions.proofs.Proved.{acts_keep_the_initial_tsns, sacks_mean_the_same}
use Rattle.sctp_assoc.specs.Leads.{Leads, parts}
use Rattle.sctp_assoc.specs.Happened.{acts_of_chunk, marks_if}
use Rattle.sctp_assoc.specs.Shown.{Shown}
use Rattle.sctp_sides.specs.Meeting.{Greets, Stage}
use Rattle.sctp_sides.specs.PastSpan.{EndsPast, ResetsPast, ResetsPastIfAny, ResetsPastOnly}
use Rattle.sctp_sides.specs.SideLaws.{DefersOnly, IsAcknowledging, IsOpened, IsTaking, OpensAndTakes}
use Rattle.sctp_sides.specs.SideLaws.{KeepsTheStage, OpensOnly, TakesChunk, TakesOnly, WithEndsBehind}
use Rattle.sctp_sides.proofs.Proved.{data_opens_or_takes, done_append, more_are_past}
use Rattle.sctp_sides.proofs.Proved.{more_is_asked_past, reconfigs_end_past, reconfigs_keep_the_status}
use Rattle.sctp_sides.proofs.Proved.{sacks_acknowledge, the_same_status_is_the_same_stage}
use Rattle.sctp_pair.specs.Fits.{IsSaidBy}
use Rattle.sctp_pair.specs.World.{HasData, HasForward}
use Rattle.sctp_pair.proofs.BetweenDirections.{By, Holds, None_brought, Surroundings, can_back, can_front, goes_nowhere}
use Rattle.sctp_pair.proofs.BetweenDirections.{goes_on, moved, spans_of}
use Rattle.sctp_pair.proofs.PastSpans.{changes_as, ends_are_not_peer_known, ends_change_past}
use Rattle.sctp_pair.proofs.OutgoingData.{AfterOut, act_acknowledged, marks_hold}
use Rattle.sctp_pair.proofs.MissingStreams.{OpenMissing, PassesOverFound, forwards_open_missing}
use Rattle.sctp_pair.proofs.SaidStaysSaid.{data_stays_said, forward_stays_said}
use Rattle.sctp_pair.proofs.HandshakeStages.{hearers_know}
use Rattle.sctp_pair.proofs.HandshakeChunk.{greet_step}
use Rattle.sctp_pair.proofs.BetweenChunks.{Underway, goes_same, meets_same, stands_by}
use Rattle.sctp_pair.proofs.ComingData.{AfterComing, act_deferred, act_opened, act_passed, act_took, coming_nowhere}
use Rattle.sctp_pair.proofs.ComingData.{holds_past}

-- DATA

none_below : (o : ℕ) → o < 0 → ⊥
none_below o l = omega arith

-- DATA comes where its giver was established, and so its receiver knows it
data_is_known : {x : Surroundings} {B : By → ℕ → Type 0} {a : Shown} (k : ℕ) (d : Data) (u : Underway x B a)
    → slice_get u.coming2.datas k ≡ Some d → u.stands.past.peer ≡ x.peer
data_is_known {x} {a = a} k d u e = u.stands.peer_is (⊎_elim
    (λ (t : x.there.completed ≡ true). hearers_know a u.stands.come (u.meets.hears t))
    (λ (f : x.there.completed ≡ false).
    let piece = all_get (IsPiece u.coming2.sender.plan) u.coming2.datas k d e u.holds.sound_coming.invariant.datas in
    absurd (none_below d.offset (subst (λ (ps : List Place). d.offset < length ps) (u.silent f) piece.known)))
    (cases_Bool x.there.completed))

-- what acts of DATA make of the direction that comes
abbrev Comes : Surroundings → (By → ℕ → Type 0) → Parts → List Act → Type 0
Comes x B p acts = AfterComing x (done_all acts p) B

-- An association takes a piece of DATA between directions that hold it; what the piece brings is B.
module _ (x : Surroundings) (B : By → ℕ → Type 0) (a : Shown) (h : History) (piece : ChunkPayloadData)
    (known : h.peer ≡ x.peer) (within : IsWithin x.coming) (holds : Holds x (parts a h)) where
  data_opens : (acts : List Act) → OpensOnly a piece acts → Comes x B (parts a h) acts
  data_opens acts o =
      subst (Comes x B (parts a h)) (sym o.are)
      (act_opened x (parts a h) B holds within piece.stream_identifier o.first o.kind o.none)

  -- the piece is one that was given out
  module _ (k : ℕ) (d : Data) (e : slice_get x.coming.datas k ≡ Some d) (said : IsSaid x.coming.over x.peer piece d)
      (brought : B By.ByData d.offset) (acts : List Act) (can : CanAll acts (parts a h)) where
    data_takes : TakesOnly a piece acts → Comes x B (parts a h) acts
    data_takes t =
        let one = subst (λ zs. CanAll zs (parts a h)) t.are can in
        subst (Comes x B (parts a h)) (sym t.are) (act_took x (parts a h) B holds within piece record {
          index = k;
          datum = d;
          there = e;
          said = said;
          brought = brought;
          known = known;
          can = one.0;
          stream = t.stream;
          live = t.live;
        })

    data_opens_and_takes : OpensAndTakes a piece acts → Comes x B (parts a h) acts
    data_opens_and_takes t =
        let one = act_opened x (parts a h) B holds within piece.stream_identifier t.first t.kind t.none in
        let both = subst (λ zs. CanAll zs (parts a h)) t.are can in
        let opened : Parts = done (Act.Opened piece.stream_identifier t.first t.kind) (parts a h) in
        let two =
        act_took (record x { coming = one.coming2 }) opened B one.holds one.within piece record {
          index = k;
          datum = d;
          there = one.goes.datas k d e;
          said = data_stays_said x.peer piece d (spans_of one.goes) said;
          brought = brought;
          known = known;
          can = both.1.0;
          stream = t.stream;
          live = t.live;
        } in
        subst (Comes x B (parts a h)) (sym t.are)
        record {
          coming2 = two.coming2;
          goes = goes_on B x.coming one.coming2 two.coming2 one.goes two.goes;
          still = two.still ∙ one.still;
          within = two.within;
          holds = two.holds;
        }

    data_defers : DefersOnly x.coming.over piece acts → Comes x B (parts a h) acts
    data_defers t =
        let one = subst (λ zs. CanAll zs (parts a h)) t.are can in
        subst (Comes x B (parts a h)) (sym t.are) (act_deferred x (parts a h) B holds within piece record {
          index = k;
          datum = d;
          there = e;
          said = said;
          brought = brought;
          known = known;
          can = one.0;
          past = t.past;
        })

  take_shape : (acts : List Act) → IsTaking x.coming.over a piece acts → CanAll acts (parts a h)
      → IsGiven x.peer x.coming piece
      → ((o : ℕ) → piece.tsn ≡ tsn x.peer o → B By.ByData o) → Comes x B (parts a h) acts
  take_shape acts (inl n) can given brings =
      subst (Comes x B (parts a h)) (sym n) (coming_nowhere B within holds)
  take_shape acts (inr (inl o)) can given brings = data_opens acts o
  take_shape acts (inr (inr (inl t))) can (k, d, e, said) brings =
      data_opens_and_takes k d e said (brings d.offset said.tsn) acts can t
  take_shape acts (inr (inr (inr (inl t)))) can (k, d, e, said) brings =
      data_takes k d e said (brings d.offset said.tsn) acts can t
  take_shape acts (inr (inr (inr (inr t)))) can (k, d, e, said) brings =
      data_defers k d e said (brings d.offset said.tsn) acts can t

taking_is_not_peer_known : (over : ℕ → Bool) (a : Shown) (piece : ChunkPayloadData) (acts : List Act)
    → IsTaking over a piece acts → AllByRecursion IsNotPeerKnown acts
taking_is_not_peer_known over a piece acts (inl n) = subst (AllByRecursion IsNotPeerKnown) (sym n) tt
taking_is_not_peer_known over a piece acts (inr (inl o)) = subst (AllByRecursion IsNotPeerKnown) (sym o.are) (tt, tt)
taking_is_not_peer_known over a piece acts (inr (inr (inl t))) =
    subst (AllByRecursion IsNotPeerKnown) (sym t.are) (tt, (tt, tt))
taking_is_not_peer_known over a piece acts (inr (inr (inr (inl t)))) =
    subst (AllByRecursion IsNotPeerKnown) (sym t.are) (tt, tt)
taking_is_not_peer_known over a piece acts (inr (inr (inr (inr t)))) =
    subst (AllByRecursion IsNotPeerKnown) (sym t.are) (tt, tt)

-- Behind such acts spans end that were over before: the directions do not see it.
module _ (x : Surroundings) (B : By → ℕ → Type 0) (p : Parts) (both : (s : ℕ) → x.out.over s ≡ x.coming.over s) where
  ends_behind : (front behind : List Act) → AllByRecursion (EndsPast x.coming.over) behind
      → CanAll behind (done_all front p) → Comes x B p front → Comes x B p (front ++ behind)
  ends_behind front behind past can after =
      let c = ends_change_past x.coming.over behind (done_all front p) past can in
      let next : Surroundings = record x { coming = after.coming2 } in
      let same = changes_as (λ t within. sym (after.goes.same_spans t) ∙ within) c in
      let holds = holds_past next (done_all front p) (done_all behind (done_all front p))
      (λ t. both t ∙ sym (after.goes.same_spans t)) same after.holds in
      record {
        coming2 = after.coming2;
        goes = after.goes;
        still = after.still;
        within = after.within;
        holds = subst (Holds next) (sym (done_append front behind p)) holds;
      }

  -- So it is of acts of a chunk, of which the ones in front are so.
  with_ends : (Are : List Act → Type 0) (acts : List Act) → WithEndsBehind x.coming.over Are acts → CanAll acts p
      → ((front : List Act) → Are front → CanAll front p → Comes x B p front) → Comes x B p acts
  with_ends Are acts w can comes =
      let both_can = subst (λ zs. CanAll zs p) w.are can in
      subst (Comes x B p) (sym w.are)
      (ends_behind w.front w.behind w.behind_are (can_back w.front w.behind p both_can)
      (comes w.front w.front_are (can_front w.front w.behind p both_can)))

-- none of them makes the peer known
ends_not_peer_known : (over : ℕ → Bool) (Are : List Act → Type 0) (acts : List Act) → WithEndsBehind over Are acts
    → ((front : List Act) → Are front → AllByRecursion IsNotPeerKnown front) → AllByRecursion IsNotPeerKnown acts
ends_not_peer_known over Are acts w each =
    subst (AllByRecursion IsNotPeerKnown) (sym w.are)
    (all_join IsNotPeerKnown w.front w.behind (each w.front w.front_are)
    (ends_are_not_peer_known over w.behind w.behind_are))

-- Acts of a chunk, which keep the stage, have resets concern streams past their span alone and do not make the peer
-- known, led the direction that comes on.
pub came_on : {x : Surroundings} {B : By → ℕ → Type 0} {a b : Shown} (u : Underway x B a) (acts : List Act)
    (leads : (k : History) × Leads acts a u.stands.past b k) → KeepsTheStage a b → ResetsPastOnly u.coming2.over b
    → AllByRecursion IsNotPeerKnown acts → Comes (moved x u.out2 u.coming2) B (parts a u.stands.past) acts
    → Underway x B b
unfolding stands_by
came_on {x} {B} {a} {b} u acts leads same past nobody after =
    let next : Surroundings = moved x u.out2 after.coming2 in
    let holds : Holds next (parts b leads.0) = subst (Holds next) (sym leads.1.there) after.holds in
    let met = ap (λ (p : Parts). p.history.peer) leads.1.there
    ∙ (acts_keep_the_initial_tsns acts (parts a u.stands.past) nobody).1 in
    record {
      out2 = u.out2;
      coming2 = after.coming2;
      goes_out = u.goes_out;
      goes_coming = goes_on B x.coming u.coming2 after.coming2 u.goes_coming after.goes;
      within_out = u.within_out;
      within_coming = after.within;
      both = λ t. u.both t ∙ sym (after.goes.same_spans t);
      places_same = u.places_same;
      coming_still = after.still ∙ u.coming_still;
      silent = λ never. ap (λ (z : Sender). z.plan.places) after.still ∙ u.silent never;
      goes = goes_same a b same u.goes;
      meets = meets_same a b same u.meets;
      stands = stands_by next leads.0 u.stands same
          (more_are_past u.coming2.over after.coming2.over b (λ t o. after.goes.same_spans t ∙ o) past) leads.1.binds
          met refl holds;
      holds = holds;
    }

data_step : {x : Surroundings} {B : By → ℕ → Type 0} (header : CommonHeader) (piece : ChunkPayloadData) {a b : Shown}
    → TakesChunk header (chunks.Data piece) a b → IsGiven x.peer x.coming piece
    → ((o : ℕ) → piece.tsn ≡ tsn x.peer o → B By.ByData o) → (u : Underway x B a) → ResetsPastOnly u.coming2.over b
    → Underway x B b
data_step {x} {B} header piece {a} {b} takes (k, d, e, said) brings u past =
    let h : History = u.stands.past in
    let acts : List Act = acts_of_chunk a header (chunks.Data piece) in
    let now : Surroundings = moved x u.out2 u.coming2 in
    let taking = data_opens_or_takes u.coming2.over a header piece u.stands.resets.resets u.stands.reads_open in
    let leads = takes.leads h u.stands.binds in
    let there = u.goes_coming.datas k d e in
    let still = data_stays_said x.peer piece d (spans_of u.goes_coming) said in
    came_on u acts leads (the_same_status_is_the_same_stage a b takes.leaves) past
    (ends_not_peer_known u.coming2.over (IsTaking u.coming2.over a piece) acts taking
    (λ front is. taking_is_not_peer_known u.coming2.over a piece front is))
    (with_ends now B (parts a h) u.both (IsTaking u.coming2.over a piece) acts taking leads.1.can
    (λ front is can. take_shape now B a h piece (data_is_known k d u there) u.within_coming u.holds front is can
    (k, d, there, still) brings))

-- RE-CONFIG

-- one that names streams past their span changes such streams alone
reset_step : {x : Surroundings} {B : By → ℕ → Type 0} (header : CommonHeader) (c : ChunkReconfig) {a b : Shown}
    → TakesChunk header (chunks.Reconfig c) a b → (u : Underway x B a) → ResetsPast u.coming2.over (chunks.Reconfig c)
    → ResetsPastOnly u.coming2.over b → Underway x B b
reset_step {x} {B} header c {a} {b} takes u named past =
    let h : History = u.stands.past in
    let acts : List Act = acts_of_chunk a header (chunks.Reconfig c) in
    let ends = reconfigs_end_past u.coming2.over a header c u.stands.resets.resets named in
    let leads = takes.leads h u.stands.binds in
    came_on u acts leads (the_same_status_is_the_same_stage a b (reconfigs_keep_the_status a b header c takes)) past
    (ends_are_not_peer_known u.coming2.over acts ends)
    (ends_behind (moved x u.out2 u.coming2) B (parts a h) u.both [] acts ends leads.1.can
    (coming_nowhere B u.within_coming u.holds))

-- FORWARD TSN

-- it comes where its giver was established, too: it passes over an offset that was assigned
forward_is_known : {x : Surroundings} {B : By → ℕ → Type 0} {a : Shown} (k : ℕ) (f : Forward) (u : Underway x B a)
    → slice_get u.coming2.forwards k ≡ Some f → u.stands.past.peer ≡ x.peer
forward_is_known {x} {a = a} k f u e = u.stands.peer_is (⊎_elim
    (λ (t : x.there.completed ≡ true). hearers_know a u.stands.come (u.meets.hears t))
    (λ (never : x.there.completed ≡ false).
    let w = u.coming2 in
    let made =
    all_get (IsForward w.sender.plan w.sender.gone w.over w.sender.acknowledged w.sender.reach) w.forwards k f e
    u.holds.sound_coming.invariant.forwards in
    absurd (none_ahead f.start f.reach made.ahead
    (subst (λ (ps : List Place). f.reach ≤ length ps) (u.silent never) made.known)))
    (cases_Bool x.there.completed))
  where
    none_ahead : (m n : ℕ) → m < n → n ≤ 0 → ⊥
    none_ahead m n l z = omega (arith, l, z)

-- An association opens streams that are missing and then passes over what a FORWARD TSN says, between directions that
-- hold it; what that brings is B.
module _ (B : By → ℕ → Type 0) (c : ChunkForwardTsn) where
  -- such acts, behind those that open streams
  abbrev passed_behind : List Act → List Act
  passed_behind opened = opened ++ Act.PassedOver c.new_cumulative_tsn c.streams ∷ []

  -- a stream that is opened changes no FORWARD TSN of the direction
  opened_then_passed : (opened : List Act) (x : Surroundings) (p : Parts) → AllByRecursion IsOpened opened
      → OpenMissing (passed_behind opened) p.streams → CanAll (passed_behind opened) p → p.history.peer ≡ x.peer
      → IsWithin x.coming → Holds x p → IsForwardMade x.peer x.coming c
      → ((n : ℕ) → c.new_cumulative_tsn ≡ tsn_before (tsn x.peer n) → B By.ByForward n)
      → Comes x B p (passed_behind opened)
  opened_then_passed [] x p are missing (can, rest) known within holds (k, f, e, said) brings =
      act_passed x p B holds within c record {
        index = k;
        forward = f;
        there = e;
        said = said;
        brought = brings f.reach said.reach;
        known = known;
        can = can;
      }
  opened_then_passed (Act.Opened id first kind ∷ opened) x p (is, are) (none, missing) (can, rest) known within holds
      (k, f, e, said) brings =
      let one = act_opened x p B holds within id first kind none in
      let next : Surroundings = record x { coming = one.coming2 } in
      let made : IsForwardMade next.peer next.coming c =
      (k, f, one.goes.forwards k f e, forward_stays_said x.peer c f (spans_of one.goes) said) in
      let two =
      opened_then_passed opened next (done (Act.Opened id first kind) p) are missing rest known one.within one.holds
      made brings in
      record {
        coming2 = two.coming2;
        goes = goes_on B x.coming one.coming2 two.coming2 one.goes two.goes;
        still = two.still ∙ one.still;
        within = two.within;
        holds = two.holds;
      }
  opened_then_passed (act ∷ opened) x p (is, are) missing can known within holds made brings = absurd is

  -- it does so, or nothing
  forward_shape : (x : Surroundings) (a : Shown) (h : History) → h.peer ≡ x.peer → IsWithin x.coming
      → Holds x (parts a h) → (acts : List Act) → PassesOverFound c a acts → CanAll acts (parts a h)
      → IsForwardMade x.peer x.coming c
      → ((n : ℕ) → c.new_cumulative_tsn ≡ tsn_before (tsn x.peer n) → B By.ByForward n) → Comes x B (parts a h) acts
  forward_shape x a h known within holds acts (inl n, missing) can made brings =
      subst (Comes x B (parts a h)) (sym n) (coming_nowhere B within holds)
  forward_shape x a h known within holds acts (inr t, missing) can made brings =
      subst (Comes x B (parts a h)) (sym t.are)
      (opened_then_passed t.opened x (parts a h) t.opened_are
      (subst (λ (zs : List Act). OpenMissing zs a.streams) t.are missing)
      (subst (λ (zs : List Act). CanAll zs (parts a h)) t.are can) known within holds made brings)

opened_is_not_peer_known : (act : Act) → IsOpened act → IsNotPeerKnown act
opened_is_not_peer_known (Act.Opened id first kind) is = tt
opened_is_not_peer_known act is = absurd is

passing_is_not_peer_known : (c : ChunkForwardTsn) (a : Shown) (acts : List Act) → PassesOverFound c a acts
    → AllByRecursion IsNotPeerKnown acts
passing_is_not_peer_known c a acts (inl n, missing) = subst (AllByRecursion IsNotPeerKnown) (sym n) tt
passing_is_not_peer_known c a acts (inr t, missing) =
    subst (AllByRecursion IsNotPeerKnown) (sym t.are)
    (all_join IsNotPeerKnown t.opened (Act.PassedOver c.new_cumulative_tsn c.streams ∷ [])
    (all_weaker IsOpened IsNotPeerKnown t.opened opened_is_not_peer_known t.opened_are) (tt, tt))

forward_step : {x : Surroundings} {B : By → ℕ → Type 0} (header : CommonHeader) (c : ChunkForwardTsn) {a b : Shown}
    → TakesChunk header (chunks.ForwardTsn c) a b → IsForwardMade x.peer x.coming c
    → ((n : ℕ) → c.new_cumulative_tsn ≡ tsn_before (tsn x.peer n) → B By.ByForward n) → (u : Underway x B a)
    → ResetsPastOnly u.coming2.over b → Underway x B b
forward_step {x} {B} header c {a} {b} takes (k, f, e, said) brings u past =
    let h : History = u.stands.past in
    let acts : List Act = acts_of_chunk a header (chunks.ForwardTsn c) in
    let now : Surroundings = moved x u.out2 u.coming2 in
    let passing = forwards_open_missing u.coming2.over a header c u.stands.resets.resets in
    let leads = takes.leads h u.stands.binds in
    let there = u.goes_coming.forwards k f e in
    let still = forward_stays_said x.peer c f (spans_of u.goes_coming) said in
    came_on u acts leads (the_same_status_is_the_same_stage a b takes.leaves) past
    (ends_not_peer_known u.coming2.over (PassesOverFound c a) acts passing
    (λ front is. passing_is_not_peer_known c a front is))
    (with_ends now B (parts a h) u.both (PassesOverFound c a) acts passing leads.1.can
    (λ front is can. forward_shape B c now a h (forward_is_known k f u there) u.within_coming u.holds front is can
    (k, f, there, still) brings))

-- SACK

-- what acts of a SACK make of its own direction: no offset is assigned
abbrev Goes_out : Surroundings → Parts → List Act → Type 0
Goes_out x p acts =
    (after : AfterOut x (done_all acts p) []) × IsWithin after.out2
    × (after.out2.sender.plan.places ≡ x.out.sender.plan.places)

-- behind such an act all that is outstanding may be marked to go out again, which its own direction does not see
marked_out : (marks : Bool) (x : Surroundings) (p : Parts) (act : Act) → Goes_out x p (act ∷ [])
    → Goes_out x p (act ∷ marks_if marks)
marked_out true x p act (after, within, same) = (
  record {
    out2 = after.out2;
    goes = after.goes;
    holds = marks_hold (record x { out = after.out2 }) (done act p) after.holds;
    said = after.said;
  },
  within,
  same,
)
marked_out false x p act out = out

sack_shape : (x : Surroundings) (a : Shown) (h : History) (c : ChunkSelectiveAck) (acts : List Act)
    → (acts ≡ []) ⊎ IsAcknowledging a h c acts → IsMade x.own x.out c → IsWithin x.out
    → Holds x (parts a h) → Goes_out x (parts a h) acts
sack_shape x a h c acts (inl n) made within holds =
    subst (Goes_out x (parts a h)) (sym n)
    (record { out2 = x.out; goes = goes_nowhere None_brought x.out; holds = holds; said = tt }, within, refl)
sack_shape x a h c acts (inr s) (k, sack, e, says) within holds =
    let named : SaysWhatWasTaken h.own sack.reach sack.above c =
    subst (λ (i : ℕ). SaysWhatWasTaken i sack.reach sack.above c) (sym holds.own_is) says in
    let at : sack.reach ≡ x.out.sender.reach + s.count =
    sacks_mean_the_same (parts a h) s.count c.cumulative_tsn_ack k sack x.out e named.at s.at s.within within
    holds.sound_out.invariant holds.between.outgoing in
    let act : Act = Act.Acknowledged s.count c.gap_ack_blocks s.missing in
    let one = act_acknowledged s.count k s.missing c sack holds e named at s.within in
    subst (Goes_out x (parts a h)) (sym s.are)
    (marked_out s.marked x (parts a h) act (one.0, one.1 within, one.2))

marks_are_not_peer_known : (marks : Bool) → AllByRecursion IsNotPeerKnown (marks_if marks)
marks_are_not_peer_known true = (tt, tt)
marks_are_not_peer_known false = tt

sack_is_not_peer_known : (a : Shown) (h : History) (c : ChunkSelectiveAck) (acts : List Act)
    → (acts ≡ []) ⊎ IsAcknowledging a h c acts → AllByRecursion IsNotPeerKnown acts
sack_is_not_peer_known a h c acts (inl n) = subst (AllByRecursion IsNotPeerKnown) (sym n) tt
sack_is_not_peer_known a h c acts (inr s) =
    subst (AllByRecursion IsNotPeerKnown) (sym s.are) (tt, marks_are_not_peer_known s.marked)

sack_step : {x : Surroundings} {B : By → ℕ → Type 0} (header : CommonHeader) (s : ChunkSelectiveAck) {a b : Shown}
    → TakesChunk header (chunks.SelectiveAck s) a b → IsMade x.own x.out s → (u : Underway x B a)
    → ResetsPastOnly u.coming2.over b → Underway x B b
unfolding stands_by
sack_step {x} {B} header s {a} {b} takes (k, sack, e, says) u past =
    let h : History = u.stands.past in
    let acts : List Act = acts_of_chunk a header (chunks.SelectiveAck s) in
    let shape = sacks_acknowledge a h header s u.stands.binds in
    let leads = takes.leads h u.stands.binds in
    let made : IsMade x.own u.out2 s = (k, sack, u.goes_out.sacks k sack e, says) in
    let both = sack_shape (moved x u.out2 u.coming2) a h s acts shape made u.within_out u.holds in
    let after = both.0 in
    let next : Surroundings = moved x after.out2 u.coming2 in
    let holds : Holds next (parts b leads.0) = subst (Holds next) (sym leads.1.there) after.holds in
    let met = ap (λ (p : Parts). p.history.peer) leads.1.there
    ∙ (acts_keep_the_initial_tsns acts (parts a h) (sack_is_not_peer_known a h s acts shape)).1 in
    record {
      out2 = after.out2;
      coming2 = u.coming2;
      goes_out = goes_on None_brought x.out u.out2 after.out2 u.goes_out after.goes;
      goes_coming = u.goes_coming;
      within_out = both.1;
      within_coming = u.within_coming;
      both = λ t. after.goes.same_spans t ∙ u.both t;
      places_same = both.2 ∙ u.places_same;
      coming_still = u.coming_still;
      silent = u.silent;
      goes = goes_same a b takes.leaves u.goes;
      meets = meets_same a b takes.leaves u.meets;
      stands = stands_by next leads.0 u.stands takes.leaves past leads.1.binds met after.goes.size holds;
      holds = holds;
    }

-- Any chunk that the other side gave out, and that stands in the packet.

-- what a packet may bring to an association: its DATA and its FORWARD TSNs
abbrev pub Brings_of : Surroundings → Option Packet → By → ℕ → Type 0
Brings_of x packet By.ByData o = HasData packet (tsn x.peer o)
Brings_of x packet By.ByForward n = HasForward packet (tsn_before (tsn x.peer n))

abbrev IsIn : Option Packet → Chunk → Type 0
IsIn packet (chunks.Data piece) = HasData packet piece.tsn
IsIn packet (chunks.ForwardTsn c) = HasForward packet c.new_cumulative_tsn
IsIn packet chunk = ⊤

-- the association that is faced may say this chunk
abbrev pub OtherSays : Surroundings → Chunk → Type 0
OtherSays x c = IsSaidBy x.peer x.own x.there x.coming x.out c

abbrev pub SaidIn : Surroundings → Option Packet → Chunk → Type 0
SaidIn x packet c = OtherSays x c × IsIn packet c

-- a chunk of the handshake resets nothing
greeting_resets_nothing : (over : ℕ → Bool) (own : ℕ) (s : Stage) (c : Chunk) → Greets own s c → ResetsPastIfAny over c
greeting_resets_nothing over own s (chunks.Reconfig reconfig) greeting = absurd greeting
greeting_resets_nothing over own s c greeting = tt

-- what resets streams past their span is a RE-CONFIG
resets_by_reconfig : (over : ℕ → Bool) (P : Chunk → Type 0)
    → ((c : ChunkReconfig) → ResetsPast over (chunks.Reconfig c) → P (chunks.Reconfig c))
    → (c : Chunk) → ResetsPast over c → P c
resets_by_reconfig over P each (chunks.Reconfig c) named = each c named
resets_by_reconfig over P each c named = absurd named

-- it is DATA, a SACK, a FORWARD TSN, the handshake's or a RE-CONFIG
said_cases : (x : Surroundings) (packet : Option Packet) (P : Chunk → Type 0)
    → ((piece : ChunkPayloadData) → IsGiven x.peer x.coming piece → HasData packet piece.tsn → P (chunks.Data piece))
    → ((s : ChunkSelectiveAck) → IsMade x.own x.out s → P (chunks.SelectiveAck s))
    → ((c : ChunkForwardTsn) → IsForwardMade x.peer x.coming c → HasForward packet c.new_cumulative_tsn
    → P (chunks.ForwardTsn c))
    → ((c : Chunk) → Greets x.peer x.there c → P c)
    → ((c : ChunkReconfig) → ResetsPast x.coming.over (chunks.Reconfig c) → P (chunks.Reconfig c))
    → (c : Chunk) → SaidIn x packet c → P c
said_cases x packet P gives acks forwards greets resets c (inr (inl said), here) = greets c said
said_cases x packet P gives acks forwards greets resets c (inr (inr said), here) =
    resets_by_reconfig x.coming.over P resets c said
said_cases x packet P gives acks forwards greets resets (chunks.Data piece) (inl said, here) = gives piece said.0 here
said_cases x packet P gives acks forwards greets resets (chunks.SelectiveAck s) (inl said, here) = acks s said.0
said_cases x packet P gives acks forwards greets resets (chunks.ForwardTsn c) (inl said, here) = forwards c said.0 here
said_cases x packet P gives acks forwards greets resets c (inl said, here) = absurd said.0

-- and so, if it is a RE-CONFIG, it names streams past their span alone
pub said_resets_past : (x : Surroundings) (packet : Option Packet) (c : Chunk) → SaidIn x packet c
    → ResetsPastIfAny x.coming.over c
said_resets_past x packet c said =
    said_cases x packet (ResetsPastIfAny x.coming.over) (λ piece given here. tt) (λ s made. tt) (λ f made here. tt)
    (λ z greeting. greeting_resets_nothing x.coming.over x.peer x.there z greeting) (λ r named. named) c said

-- what keeps resets to streams past their span does so where the packet led
pub still_past : {x : Surroundings} {B : By → ℕ → Type 0} {a b : Shown} (u : Underway x B a)
    → (ResetsPastOnly x.coming.over a → ResetsPastOnly x.coming.over b) → ResetsPastOnly u.coming2.over b
still_past {x} {a = a} {b = b} u keeps =
    let same = u.goes_coming.same_spans in
    more_are_past x.coming.over u.coming2.over b (λ t o. same t ∙ o)
    (keeps (more_are_past u.coming2.over x.coming.over a (λ t o. sym (same t) ∙ o) u.stands.resets))

pub chunk_step : {x : Surroundings} (packet : Option Packet) (header : CommonHeader) (c : Chunk) {a b : Shown}
    → SaidIn x packet c → TakesChunk header c a b
    → (ResetsPastOnly x.coming.over a → ResetsPastOnly x.coming.over b)
    → Underway x (Brings_of x packet) a → Underway x (Brings_of x packet) b
chunk_step {x} packet header c {a} {b} said takes keeps u =
    let B : By → ℕ → Type 0 = Brings_of x packet in
    let same = u.goes_coming.same_spans in
    let past : ResetsPastOnly u.coming2.over b = still_past u keeps in
    said_cases x packet (λ (z : Chunk). TakesChunk header z a b → Underway x B b)
    (λ piece given brought takes. data_step header piece takes given (λ o e. subst (HasData packet) e brought) u past)
    (λ s made takes. sack_step header s takes made u past)
    (λ f made brought takes. forward_step header f takes made (λ n e. subst (HasForward packet) e brought) u past)
    (λ z greeting takes. greet_step header z takes greeting u past)
    (λ r named takes. reset_step header r takes u
    (more_is_asked_past x.coming.over u.coming2.over (chunks.Reconfig r) (λ t o. same t ∙ o) named) past)
    c said takes

-- The chunks of a packet

got_at : {X : Type 0} (xs ys : List X) (x : X) → slice_get (xs ++ x ∷ ys) (length xs) ≡ Some x
got_at [] ys x = refl
got_at (z ∷ xs) ys x = got_at xs ys x

is_in : (packet : Packet) (c : Chunk) (k : ℕ) → slice_get packet.chunks k ≡ Some c → IsIn (Some packet) c
is_in packet (chunks.Data piece) k e = (k, piece, e, refl)
is_in packet (chunks.ForwardTsn c) k e = inl (k, c, e, refl)
is_in packet c k e = tt

pub all_said_in : (x : Surroundings) (packet : Packet) (front cs : List Chunk) → packet.chunks ≡ front ++ cs
    → AllByRecursion (OtherSays x) cs → AllByRecursion (SaidIn x (Some packet)) cs
all_said_in x packet front [] e h = tt
all_said_in x packet front (c ∷ cs) e (h, hs) = (
  (h, is_in packet c (length front) (ap (λ z. slice_get z (length front)) e ∙ got_at front cs c)),
  all_said_in x packet (front ++ c ∷ []) cs (e ∙ sym (append_assoc front (c ∷ []) cs)) hs,
)
