mod LastPlaces
