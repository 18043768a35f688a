-- The driver of a net, as its connections are gone through.
use Rattle.std.proofs.Common.{◌≡◌, ℕ, ◌+◌, ◌<◌, ◌≤◌, true, cond, [], ◌∷◌, ◌++◌, length, take, drop, Option, Some, Ok, inl, inr, sym, ◌∙◌, ap, ap₂, subst}
use Rattle.std.specs.List.{slice_get, filter}
use Rattle.std.specs.Prelude.{IfSome, option_to_list}
use Rattle.std.proofs.lemmas.List.{append-nil, take-append-drop, take_all}
use Rattle.std.proofs.lemmas.List.Elements.{filter-append}
use Rattle.spef_nets.specs.NetElements.{NetElements}
use Rattle.spef_nets.specs.declared.parts.Listed.{Listed}
use Rattle.wire_phases.specs.declared.net_pins.DriverEnd.TheVariants.{ManyDrivers}
use Rattle.wire_phases.specs.WireNets.{drives, HasDriver}
use Rattle.wire_phases.specs.NetPins.{conn_of, IsNextDriver, IsDriverEnd}
use Rattle.refusals.proofs.Places.{got_below, within, front_more}

-- the drivers among one connection more
more_drivers : (net : NetElements) (place : ℕ) (conn : Listed) → slice_get net.conns place ≡ Some conn → filter drives (take (place + 1) net.conns) ≡ filter drives (take place net.conns) ++ filter drives (conn ∷ [])
more_drivers net place conn stands = ap (filter drives) (front_more net.conns place conn stands) ∙ filter-append drives (take place net.conns) (conn ∷ [])

pub next_drivers : (net : NetElements) (place : ℕ) (conn : Listed) (found next : Option ℕ) → slice_get net.conns place ≡ Some conn → filter drives (take place net.conns) ≡ conn_of net found → IsNextDriver found place conn (Ok next) → filter drives (take (place + 1) net.conns) ≡ conn_of net next
next_drivers net place conn found next stands so_far (inl same) =
    more_drivers net place conn stands ∙ ap₂ ◌++◌ so_far same.0 ∙ append-nil (conn_of net found) ∙ ap (conn_of net) (sym same.1)
next_drivers net place conn found next stands so_far (inr first) =
    more_drivers net place conn stands ∙ ap₂ ◌++◌ (so_far ∙ ap (conn_of net) first.1) first.0 ∙ ap option_to_list (sym stands) ∙ ap (conn_of net) (sym first.2)

-- the next driver is a connection that there is
pub next_within : (net : NetElements) (place : ℕ) (conn : Listed) (found next : Option ℕ) → IfSome found (λ driver. driver < length net.conns) → slice_get net.conns place ≡ Some conn → IsNextDriver found place conn (Ok next) → IfSome next (λ driver. driver < length net.conns)
next_within net place conn found next before stands (inl same) = subst (λ o. IfSome o (λ driver. driver < length net.conns)) (sym same.1) before
next_within net place conn found next before stands (inr first) = subst (λ o. IfSome o (λ driver. driver < length net.conns)) (sym first.2) (within net.conns place conn stands)

-- two drivers among all connections, where two are among the first
pub two_drivers : (net : NetElements) (place one : ℕ) (conn : Listed) → slice_get net.conns place ≡ Some conn → drives conn ≡ true → one < length net.conns → filter drives (take place net.conns) ≡ conn_of net (Some one) → IsDriverEnd net ManyDrivers
two_drivers net place one conn stands driving below so_far =
    let first = got_below net.conns one below in (
      first.0,
      conn,
      filter drives (drop (place + 1) net.conns),
      ap (filter drives) (sym (take-append-drop (place + 1) net.conns))
          ∙ filter-append drives (take (place + 1) net.conns) (drop (place + 1) net.conns)
          ∙ ap (λ l. l ++ filter drives (drop (place + 1) net.conns))
          (more_drivers net place conn stands ∙ ap₂ ◌++◌ (so_far ∙ ap option_to_list first.1) (ap (λ b. cond b (conn ∷ []) []) driving)),
    )

-- the one driver of all connections, or none
pub one_driver : (net : NetElements) (place driver : ℕ) → length net.conns ≤ place → filter drives (take place net.conns) ≡ conn_of net (Some driver) → driver < length net.conns → HasDriver net driver
one_driver net place driver all so_far below =
    let first = got_below net.conns driver below in
    record {
      driver = first.0;
      stands = first.1;
      sole = ap (filter drives) (sym (take_all place net.conns all)) ∙ so_far ∙ ap option_to_list first.1;
    }

pub none_drives : (net : NetElements) (place : ℕ) → length net.conns ≤ place → filter drives (take place net.conns) ≡ [] → filter drives net.conns ≡ []
none_drives net place all so_far = ap (filter drives) (sym (take_all place net.conns all)) ∙ so_far
