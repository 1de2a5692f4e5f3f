-- What ends was closed, of two ends: over steps of two associations that exchange datagrams no reply tells of an end of
-- a stream that the application of neither side closed (RFC 6525 section 5, RFC 8831 section 6.7).
use Rattle.std.specs.Prelude.{◌≡◌, ⊤, ℕ, Bool, false, ◌==◌, List, [], ◌∷◌, ◌++◌, Option, Some, None}
use Rattle.std.specs.List.{AllByRecursion, list_any}
use Rattle.std.specs.declared.net.ip_addr.IpAddr.{IpAddr}
use Rattle.std.specs.declared.net.socket_addr.SocketAddr.{SocketAddr}
use Rattle.sctp_wire_types.specs.declared.chunk.ChunkInit.{ChunkInit}
use Rattle.sctp_wire_types.specs.declared.config.ServerConfig.{ServerConfig}
use Rattle.sctp_wire_types.specs.Config.{Settings}
use Rattle.sctp_assoc.specs.Created.{created, joined}
use Rattle.sctp_assoc.specs.declared.call.Reply.{Reply}
use Rattle.sctp_sides.specs.NoReset.{HasNoReset}
use Rattle.sctp_sides.specs.Runs.{told_in}
use Rattle.sctp_steps.specs.declared.step.Step.{Step}
use Rattle.sctp_steps.specs.declared.step.Step.TheVariants as steps
use Rattle.sctp_steps.specs.Ends.{Ends}
use Rattle.sctp_steps.specs.Steps.{Runs, Steps}
use Rattle.sctp_boundaries.specs.Between.{AreFew, Courses, StandBetween}
use Rattle.sctp_boundaries.specs.Laws.{LeadsBoth, NamesIdentifiers}
use Rattle.sctp_closed.specs.Closed.{EndsOnly, TellsNoEnd}

-- a step closes a stream at its side
abbrev pub step_closes : ℕ → Step → Bool
step_closes id (steps.Stop side stopped) = stopped == id
step_closes id (steps.CloseStream side closed) = closed == id
step_closes id step = false

-- one of these steps does, at either side
abbrev pub is_closed_in : List Step → ℕ → Bool
is_closed_in ss id = list_any (step_closes id) ss

-- No reset was under way at either side, no event told of an end, and nothing was given out.
pub record BeginsUnclosed (p : Ends) : Type 0 where
  pub quiet_a : HasNoReset p.a
  pub quiet_b : HasNoReset p.b
  pub silent_a : TellsNoEnd p.a
  pub silent_b : TellsNoEnd p.b
  pub none_a : p.packets_a ≡ []
  pub none_b : p.packets_b ≡ []

-- Behind the steps that are done, these with their replies lead from p to q. Each end that a reply tells of is of a
-- stream that its step closed, or one before it did, as long as few requests and offsets were sent in either direction.
abbrev pub TellAlong : ℕ → ℕ → ℕ → List Step → List Step → List Reply → Ends → Courses → Ends → Type 0
TellAlong own_a own_b id done [] [] p w q = q ≡ p
TellAlong own_a own_b id done (s ∷ ss) (r ∷ rs) p w q =
    (u : Ends) × Steps s p r u × AllByRecursion (EndsOnly (is_closed_in (done ++ s ∷ []))) (told_in r)
    × (l : LeadsBoth own_a own_b id s p r u w)
    × (AreFew l.after → TellAlong own_a own_b id (done ++ s ∷ []) ss rs u l.after q)
TellAlong own_a own_b id done [] (r ∷ rs) p w q = ⊥
TellAlong own_a own_b id done (s ∷ ss) [] p w q = ⊥

-- Behind the steps that are done, each end that these replies tell of is of a stream that was closed before.
abbrev pub AreOfClosed : List Step → List Step → List Reply → Type 0
AreOfClosed done (s ∷ ss) (r ∷ rs) =
    AllByRecursion (EndsOnly (is_closed_in (done ++ s ∷ []))) (told_in r) × AreOfClosed (done ++ s ∷ []) ss rs
AreOfClosed done [] rs = ⊤
AreOfClosed done (s ∷ ss) [] = ⊤

-- Whatever steps led to p from two associations of which nothing was closed, and which stood between the courses of a
-- stream, whichever that is: these follow them as the next ones and lead to q, and each end that is told of is of a
-- stream that was closed before.
abbrev pub EndOnlyClosed : List Step → List Reply → Ends → Ends → Type 0
EndOnlyClosed more answers p q =
    (start : Ends) (before : List Step) (first : List Reply) → Runs before first start p → (own_a own_b id : ℕ)
    (w : Courses) → AllByRecursion NamesIdentifiers (before ++ more) → StandBetween own_a own_b id start w
    → BeginsUnclosed start → TellAlong own_a own_b id [] (before ++ more) (first ++ answers) start w q

-- Every list of steps does so, whichever of the packets that were given out come, in whichever order and however often.
abbrev pub OnlyClosedStreamsEndBetween : Type 0
OnlyClosedStreamsEndBetween =
    (more : List Step) (answers : List Reply) (p q : Ends) → Runs more answers p q → EndOnlyClosed more answers p q

-- Of a pair that two tokens joined nothing was closed,
abbrev pub JoinedPairsBeginUnclosed : Type 0
JoinedPairsBeginUnclosed = (config_a config_b : Settings) (size_a size_b : ℕ) (address_a address_b : SocketAddr)
    (ip_a ip_b : Option IpAddr) (token_a token_b : ChunkInit)
    → BeginsUnclosed
    (record {
      a = joined config_a size_a address_a ip_a token_a token_b;
      b = joined config_b size_b address_b ip_b token_b token_a;
      packets_a = [];
      packets_b = [];
    })

-- nor of a client and a server before any packet.
abbrev pub ClientsAndServersBeginUnclosed : Type 0
ClientsAndServersBeginUnclosed = (of_server : ServerConfig) (config_a config_b : Settings)
    (size_a size_b tag_a tag_b tsn_a tsn_b : ℕ) (cookie_a cookie_b : List ℕ) (address_a address_b : SocketAddr)
    (ip_a ip_b : Option IpAddr) (now : ℕ)
    → BeginsUnclosed
    (record {
      a = created None config_a size_a tag_a tsn_a cookie_a address_a ip_a now;
      b = created (Some of_server) config_b size_b tag_b tsn_b cookie_b address_b ip_b now;
      packets_a = [];
      packets_b = [];
    })
