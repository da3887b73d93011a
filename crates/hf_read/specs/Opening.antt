-- What is read of a file before the limits of a store are looked at.
use Rattle.std.specs.Prelude.{◌≡◌, ℕ, true, List, Ok}
use Rattle.hf_base.specs.LocationFaults.{locations_fault}
use Rattle.hf_box.specs.Boxes.{BoxAt}
use Rattle.hf_box.specs.Framing.{frames}
use Rattle.hf_box.specs.Walk.{children_at}
use Rattle.hf_head.specs.Ftyp.{Brands}
use Rattle.hf_head.specs.Hdlr.{hdlr_at}
use Rattle.hf_head.specs.Pitm.{pitm_at}
use Rattle.hf_store.specs.Store.{ItemStore}
use Rattle.hf_read.specs.Faults.{derived_fault}
use Rattle.hf_read.specs.Reading.{idat_of, store_at, tables_at}
use Rattle.hf_read.specs.Tables.{Tables, items_in}
use Rattle.hf_read.specs.TopLevel.{Parts, top_of, parts_of}

-- the file has these brands, and its `meta` these boxes
pub record IsMetaOf (F : List ℕ) (brands : Brands) (parts : Parts) : Type 0 where
  pub boxes : List BoxAt
  pub framed : frames true 0 F ≡ Ok boxes
  pub meta : BoxAt
  pub top : top_of boxes ≡ Ok (brands, meta)
  pub children : List BoxAt
  pub inner : children_at meta ≡ Ok children
  pub are_parts : parts_of children ≡ Ok parts

-- the store that these boxes of `meta` give in a file with these brands, whose places and derived items have no fault
pub record IsStoreOf (F : List ℕ) (brands : Brands) (parts : Parts) (s : ItemStore) : Type 0 where
  pub picture : hdlr_at parts.hdlr.at parts.hdlr.body ≡ Ok tt
  pub primary : pitm_at parts.pitm.at parts.pitm.body ≡ Ok s.primary
  pub tables : Tables
  pub are_tables : tables_at s.primary parts ≡ Ok tables
  pub placed : locations_fault F (idat_of parts) (items_in tables) ≡ Ok tt
  pub is : s ≡ store_at F (idat_of parts) brands s.primary tables
  pub derived : derived_fault s.items ≡ Ok tt
